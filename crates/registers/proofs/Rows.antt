-- The rows of a file beside the entries, one after another.
use Rattle.std.proofs.Common.{◌≡◌, ℕ, ◌<◌, List, Some, None, Ok, Err, Option, Result, sym, ap, ◌∙◌, subst, MatchResult}
use Rattle.std.specs.Option.{option_map}
use Rattle.std.specs.Result.{IsErrAnd, result_err}
use Rattle.kinds.specs.Meaning.{Meaning}
use Rattle.files.proofs.Firsts.{first_none, first_some}
use Rattle.registers.specs.declared.entry.Entry.{Entry}
use Rattle.registers.specs.declared.entry.Standing.{Standing}
use Rattle.registers.specs.declared.fault.EntryFault.{EntryFault}
use Rattle.registers.specs.declared.fault.RegisterFault.{RegisterFault}
use Rattle.registers.specs.Admission.{at_row, beside, row_refusal, rows_refusal}
use Rattle.registers.specs.Entries.{standing}
use Rattle.registers.specs.Ids.{compare_ids}

-- what was told on of a fault is no fault where it is none
pub ok_before : {X E D : Type 0} (r : Result X E) (t : Result X D) (Q : E → D → Type 0) → MatchResult r (λ x. t ≡ Ok x) (λ e. IsErrAnd t (Q e)) → (x : X) → t ≡ Ok x → r ≡ Ok x
ok_before (Ok y) t Q h x e = cc
ok_before (Err y) t Q h x e = absurd (subst (λ t. IsErrAnd t (Q y)) e h)

module _ {R T N K : Type 0} (m : Meaning R T N K) (s year : ℕ) (r : ℕ → R) (es : List (Entry N T)) where
  -- a row's refusal by the record, its number and what stands there
  pub row_judged : (k : ℕ) (newer : R) (n : N) (there : Option (Standing T)) → newer ≡ r k → n ≡ m.number newer →
      there ≡ standing (compare_ids m.numbers) es (record { supplier = s; number = n }) →
      beside m year newer there ≡ row_refusal m s r es year k
  row_judged k newer n there p q u =
      let number = q ∙ ap m.number p in
      let stands = u ∙ (λ t. standing (compare_ids m.numbers) es (record { supplier = s; number = number t })) in
      λ t. beside m year (p t) (stands t)

  module _ (n : ℕ) where
    pub refused_at : (k : ℕ) (e : EntryFault) → k < n → ((j : ℕ) → j < k → row_refusal m s r es year j ≡ None) → Some e ≡ row_refusal m s r es year k →
        Some (at_row (k, e)) ≡ rows_refusal m s r es year n
    refused_at k e l before here = ap (option_map at_row) (sym (first_some (row_refusal m s r es year) n k e l (sym here) before))

    -- the fault of a row's check, told on with the row
    pub refused_on : (k : ℕ) (own : Result N EntryFault) (told : Result N RegisterFault) (Q : EntryFault → RegisterFault → Type 0) →
        MatchResult own (λ x. told ≡ Ok x) (λ e. IsErrAnd told (Q e)) → ((e : EntryFault) (d : RegisterFault) → Q e d → d ≡ at_row (k, e)) → (d : RegisterFault) → told ≡ Err d →
        k < n → ((j : ℕ) → j < k → row_refusal m s r es year j ≡ None) → result_err own ≡ row_refusal m s r es year k → Some d ≡ rows_refusal m s r es year n
    refused_on k (Ok x) told Q h q d e l before here = cc
    refused_on k (Err f) told Q h q d e l before here = ap Some (q f d (subst (λ t. IsErrAnd t (Q f)) e h)) ∙ refused_at k f l before here

    pub none_refused : ((k : ℕ) → k < n → row_refusal m s r es year k ≡ None) → None ≡ rows_refusal m s r es year n
    none_refused all = ap (option_map at_row) (sym (first_none (row_refusal m s r es year) n all))
