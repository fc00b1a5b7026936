-- One row more of a scan.
use Rattle.std.proofs.Common.{◌≡◌, ℕ, ◌+◌, ◌<◌, List, length, get_or, set, Some, None, Ok, Err, Option, Result, sym, ap, ◌∙◌, subst, ⊎_elim, add-one, arith}
use Rattle.std.proofs.lemmas.List.{get_or-set_other, get_or-set_same}
use Rattle.std.proofs.lemmas.Bool.{cases_order}
use Rattle.indexes.specs.declared.Place.{Place}
use Rattle.fields.specs.declared.fault.FieldFault.{FieldFault}
use Rattle.fields.specs.Rules.{checked}
use Rattle.kinds.specs.Meaning.{Meaning, reads}
use Rattle.kinds.specs.Values.{read_as}
use Rattle.files.specs.declared.fault.RowFault.{RowFault}
use Rattle.files.specs.Files.{Noted, judged, key_before, light_fault, record_at}
use Rattle.files.specs.Steps.{Read}

module _ {R T N K : Type 0} (m : Meaning R T N K) (s : ℕ) (row : ℕ → List ℕ) where
  pub record_is : (k : ℕ) (r : R) → reads m s (row k) ≡ Ok r → record_at m s row k ≡ r
  record_is k r e = go (checked (m.context s (row k)) (row k) m.table) e
    where
      go : (c : Result (Unit {0}) FieldFault) → read_as (m.values s (row k)) c ≡ Ok r → m.values s (row k) ≡ r
      go (Ok _) e = cc
      go (Err x) e = cc

  pub key_more : (i : ℕ) (r : R) → reads m s (row i) ≡ Ok r → Some (m.order r) ≡ key_before m s row (i + 1)
  key_more i r e = rw add-one (ap (λ x. Some (m.order x)) (sym (record_is i r e)))

  pub light_none : (i : ℕ) (before : Option K) (r : R) → before ≡ key_before m s row i → Read m s (row i) before r → light_fault m s row i ≡ None
  light_none i before r b read = (λ j. judged m (sym b j) (read.is_read j)) ∙ read.ordered

  pub light_some : (i : ℕ) (before : Option K) (e : RowFault) → before ≡ key_before m s row i → judged m before (reads m s (row i)) ≡ Some e → light_fault m s row i ≡ Some e
  light_some i before e b h = ap (λ k. judged m k (reads m s (row i))) (sym b) ∙ h

  pub noted_more : (i : ℕ) (ps qs : List (Place N)) (n : N) → i < length ps → n ≡ m.number (record_at m s row i) → qs ≡ set ps i (record { number = n; row = i }) →
      Noted m s row i ps → Noted m s row (i + 1) qs
  noted_more i ps qs n l e put noted k d h = ap (λ x. get_or x k d) put ∙ ⊎_elim here (⊎_elim below (λ z. absurd (omega arith))) (cases_order k i)
    where
      here : k ≡ i → get_or (set ps i (record { number = n; row = i })) k d ≡ record { number = m.number (record_at m s row k); row = k }
      here z =
          subst (λ w. get_or (set ps i (record { number = n; row = i })) w d ≡ record { number = m.number (record_at m s row w); row = w }) (sym z)
          (get_or-set_same ps i (record { number = n; row = i }) d l ∙ (λ j. record { number = e j; row = i }))

      below : k < i → get_or (set ps i (record { number = n; row = i })) k d ≡ record { number = m.number (record_at m s row k); row = k }
      below z = get_or-set_other ps i k (record { number = n; row = i }) d (omega arith) ∙ noted k d z
