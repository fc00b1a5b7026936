-- What a row without a fault says of its fields.
use Rattle.std.proofs.Common.{◌≡◌, ℕ, ◌≤◌, Bool, true, false, List, [], ◌∷◌, is_ok, Some, None, Decides, Option, sym, refl, ◌∙◌, arith}
use Rattle.std.proofs.lemmas.Bool.{false≢true}
use Rattle.std.proofs.lemmas.Bool.Decides.{nat_tests}
use Rattle.fields.specs.declared.fault.FieldFault.{FieldFault}
use Rattle.fields.specs.declared.rule.Context.{Context}
use Rattle.fields.specs.declared.rule.Field.{Field}
use Rattle.fields.specs.declared.rule.Content.TheVariants.{Between}
use Rattle.fields.specs.declared.rule.FieldType.{FieldType}
use Rattle.fields.specs.declared.rule.Need.{Need}
use Rattle.fields.specs.Bytes.{columns, value}
use Rattle.fields.specs.Rules.{Keeps, Sound, allowed, bytes_of, checked, equal, fault, fault_when, field, typed_as, unless}

-- a row has no fault exactly where each field keeps its rule
pub checked_sound : (c : Context) (row : List ℕ) (fs : List Field) → Decides (is_ok (checked c row fs)) (Sound c row fs)
checked_sound c row [] = (λ _. tt, λ _. refl)
checked_sound c row (f ∷ fs) = after (fault c row f) refl (checked_sound c row fs)
  where
    after : (o : Option FieldFault) → fault c row f ≡ o → Decides (is_ok (checked c row fs)) (Sound c row fs) → Decides (is_ok (unless o (checked c row fs))) (Keeps c row f × Sound c row fs)
    after None e ih = (λ ok. (e, ih.0 ok), λ s. ih.1 s.1)
    after (Some x) e ih =
        (λ no'. absurd (false≢true no'), λ s. let z : ◌≡◌ {A = Option FieldFault} (Some x) None = sym e ∙ s.0 in cc)

-- what is known of a field that keeps its rule
pub kept_tests : (c : Context) (row : List ℕ) (f : Field) → Keeps c row f →
    (typed_as f (bytes_of f row) ≡ true) × (allowed c f.content (bytes_of f row) ≡ true) × (equal c f.content (bytes_of f row) ≡ true)
unfolding fault
kept_tests c row f kept = all_three _ _ _ kept
  where
    all_three : (t a e : Bool) → fault_when t a e f.number ≡ None → (t ≡ true) × (a ≡ true) × (e ≡ true)
    all_three false a e k = let z : ◌≡◌ {A = ℕ} 0 1 = cc in absurd (omega arith)
    all_three true false e k = let z : ◌≡◌ {A = ℕ} 0 1 = cc in absurd (omega arith)
    all_three true true false k = let z : ◌≡◌ {A = ℕ} 0 1 = cc in absurd (omega arith)
    all_three true true true k = (refl, refl, refl)

pub kept_between : (c : Context) (row : List ℕ) (n first last : ℕ) (t : FieldType) (need : Need) (low high : ℕ) →
    Keeps c row (field n first last t need (Between low high)) → (low ≤ value (columns first last row)) × (value (columns first last row) ≤ high)
kept_between c row n first last t need low high kept =
    let test = (kept_tests c row (field n first last t need (Between low high)) kept).1 in grind (arith, nat_tests)
