-- A text without its last blank trims to the same, and one that ends in none is trimmed.
use Rattle.std.proofs.Common.{◌≡◌, ℕ, ◌+◌, ◌-◌, ◌≤◌, eqb, List, length, get_or, take, sym, ap, ◌∙◌, length-take, arith}
use Rattle.std.specs.List.{suffix_len}
use Rattle.std.proofs.lemmas.List.{take_all, take-take}
use Rattle.std.proofs.lemmas.List.Sums.{suffix_len_is, suffix_len-take_yes}
use Rattle.std.proofs.lemmas.Bool.{eq-eqb, ne_eqb}
use Rattle.fields.specs.Bytes.{trimmed}

pub trimmed_more : (bs : List ℕ) → 1 ≤ length bs → get_or bs (length bs - 1) 0 ≡ 32 → trimmed (take (length bs - 1) bs) ≡ trimmed bs
unfolding trimmed
trimmed_more bs some last =
    let p = λ (b : ℕ). eqb b 32 in
    let n = length bs in
    let front = take (n - 1) bs in
    let one_more : suffix_len p (take n bs) ≡ 1 + suffix_len p front = suffix_len-take_yes p bs n 0 (omega (arith, some)) (omega arith) (eq-eqb _ 32 last) in
    let whole : suffix_len p (take n bs) ≡ suffix_len p bs = ap (suffix_len p) (take_all n bs (omega arith)) in
    let long : length front ≡ n - 1 = simp length-take (omega arith) in
    let cut : length front - suffix_len p front ≡ n - suffix_len p bs = omega (arith, one_more, whole, long) in
    take-take (length front - suffix_len p front) (n - 1) bs (omega (arith, long)) ∙ ap (λ m. take m bs) cut

pub trimmed_done : (bs : List ℕ) → (1 ≤ length bs → get_or bs (length bs - 1) 0 ≡ 32 → ⊥) → bs ≡ trimmed bs
unfolding trimmed
trimmed_done bs none =
    let p = λ (b : ℕ). eqb b 32 in
    let n = length bs in
    let nothing : suffix_len p bs ≡ n - n = suffix_len_is p bs n 0 (omega arith) (λ k from to. absurd (omega (arith, from, to))) (λ some. ne_eqb _ 32 (none some)) in
    sym (take_all (n - suffix_len p bs) bs (omega (arith, nothing)))
