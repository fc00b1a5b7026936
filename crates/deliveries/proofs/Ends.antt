-- The station that a code finds among sorted places.
use Rattle.std.proofs.Common.{◌≡◌, ℕ, ◌<◌, Bool, true, false, cond, ◌&&◌, eqb, List, Some, None, Less, Equal, Greater, sym, refl, ap, ◌∙◌, subst, ⊎_elim, arith}
use mathlib.Core.Logic.{∥∥₁_elim}
use Rattle.std.specs.Cmp.{nat_cmp_total}
use Rattle.std.specs.Coded.{Coded-set, coded_ℕ, le_prop}
use Rattle.std.specs.List.{ContainsAt as Has}
use Rattle.std.specs.Bool.{then_some}
use Rattle.std.specs.Option.{option_map}
use Rattle.std.proofs.lemmas.Bool.{and_left, and_right, cases_eq, cases_order, eq-eqb, le-ltb, ne_eqb}
use Rattle.fields.specs.Flags.{stays}
use Rattle.indexes.specs.declared.Place.{Place}
use Rattle.indexes.specs.Places.{Least, Stands}
use Rattle.kinds.specs.declared.station.Station.{Station}
use Rattle.kinds.specs.Orders.{apart_numbers}
use Rattle.kinds.specs.Station.{station_meaning}
use Rattle.files.specs.Files.{Indexed, SoundRows, record_at}
use Rattle.files.proofs.Firsts.{first_none, first_some}
use Rattle.deliveries.specs.Across.{stands, station_of}
use Rattle.std.specs.Ordering.{nat_cmp}

same : (x : ℕ) → nat_cmp x x ≡ Equal
same x = λ i. cond (le-ltb x x (omega arith) i) Less (cond (eq-eqb x x refl i) Equal Greater)

module _ (s : ℕ) (row : ℕ → List ℕ) (n : ℕ) (ps : List (Place ℕ)) (index : ∥ Indexed station_meaning s row n ps ∥₁) (sound : ∥ SoundRows station_meaning s row n ∥₁) (code : ℕ) where
  station_at : ℕ → Station
  station_at k = record_at station_meaning s row k

  not_it : (k : ℕ) → ((record_at station_meaning s row k).number ≡ code → ⊥) → stands (record_at station_meaning s row) n code k ≡ None
  not_it k no' =
      ap (λ b. cond b (Some (record_at station_meaning s row k)) None)
      (and_left (eqb (record_at station_meaning s row k).number code) _ (ne_eqb (record_at station_meaning s row k).number code no'))

  gone : (k : ℕ) → stays (record_at station_meaning s row k).key_flag ≡ false → stands (record_at station_meaning s row) n code k ≡ None
  gone k e = ap (λ b. cond b (Some (record_at station_meaning s row k)) None) (and_right (eqb (record_at station_meaning s row k).number code) _ e)

  -- what is known of the stations holds where it shows that something cannot be, or two numbers are the same
  place_of : (k : ℕ) → k < n → (Has ps (record { number = (record_at station_meaning s row k).number; row = k }) → ⊥) → ⊥
  place_of k l no' = ∥∥₁_elim index (λ x y. absurd x) (λ i. no' (i.all k l))

  single : (j k : ℕ) → j < k → k < n → (record_at station_meaning s row j).number ≡ (record_at station_meaning s row k).number → ⊥
  single j k p q e = ∥∥₁_elim sound (λ x y. absurd x) (λ r. r.single j k p q e)

  row_below : (p : Place ℕ) → Has ps p → p.row < n
  row_below p h = ∥∥₁_elim index le_prop (λ i. let x = i.only p h in subst (λ w. w < n) (sym (ap (λ q. q.row) x.2)) x.1)

  number_is : (p : Place ℕ) → Has ps p → p.number ≡ (record_at station_meaning s row p.row).number
  number_is p h = ∥∥₁_elim index (Coded-set coded_ℕ _ _) (λ i. let x = i.only p h in ap (λ q. q.number) x.2 ∙ ap (λ w. (record_at station_meaning s row w).number) (sym (ap (λ q. q.row) x.2)))

  pub none_found : Least (Stands nat_cmp_total ps code) None → station_of (record_at station_meaning s row) n code ≡ None
  none_found none =
      ap (option_map (λ p. p.1)) (first_none (stands (record_at station_meaning s row) n code) n
      (λ k l. not_it k (λ e. place_of k l (λ h. none k (record { number = (record_at station_meaning s row k).number; row = k }, h, ap (λ w. nat_cmp w code) e ∙ same code, refl)))))

  -- the row that was found, and that it alone has the code
  it : (k : ℕ) → Stands nat_cmp_total ps code k → (k < n) × ((record_at station_meaning s row k).number ≡ code)
  it k h =
      subst (λ w. (w < n) × ((record_at station_meaning s row w).number ≡ code)) h.3
      (row_below h.0 h.1, sym (number_is h.0 h.1) ∙ apart_numbers _ _ h.2)

  alone : (j k : ℕ) → j < n → k < n → (record_at station_meaning s row k).number ≡ code → (j ≡ k → ⊥) → (record_at station_meaning s row j).number ≡ code → ⊥
  alone j k p q e apart h =
      ⊎_elim apart
      (⊎_elim (λ z. single j k z q (h ∙ sym e)) (λ z. single k j z p (e ∙ sym h))) (cases_order j k)

  found_staying : (k : ℕ) → Least (Stands nat_cmp_total ps code) (Some k) → stays (record_at station_meaning s row k).key_flag ≡ true →
      station_of (record_at station_meaning s row) n code ≡ Some (record_at station_meaning s row k)
  found_staying k least stay =
      let here = it k least.0 in
      ap (option_map (λ p. p.1)) (first_some (stands (record_at station_meaning s row) n code) n k _ here.0
      (λ i. cond (eq-eqb (record_at station_meaning s row k).number code here.1 i && stay i) (Some (record_at station_meaning s row k)) None)
      (λ j l. not_it j (alone j k (omega (arith, here.0)) here.0 here.1 (λ e. omega arith))))

  found_gone : (k : ℕ) → Least (Stands nat_cmp_total ps code) (Some k) → stays (record_at station_meaning s row k).key_flag ≡ false →
      station_of (record_at station_meaning s row) n code ≡ None
  found_gone k least leave =
      let here = it k least.0 in
      ap (option_map (λ p. p.1)) (first_none (stands (record_at station_meaning s row) n code) n
      (λ j l. ⊎_elim (λ z. subst (λ w. stands (record_at station_meaning s row) n code w ≡ None) (sym z) (gone k leave))
      (λ apart. not_it j (alone j k l here.0 here.1 apart)) (cases_eq j k)))

  -- the record in the row that was found, if it stays
  pub found : (k : ℕ) → Least (Stands nat_cmp_total ps code) (Some k) → then_some (stays (record_at station_meaning s row k).key_flag) (record_at station_meaning s row k) ≡ station_of (record_at station_meaning s row) n code
  found k least = go (stays (record_at station_meaning s row k).key_flag) refl
    where
      go : (b : Bool) → stays (record_at station_meaning s row k).key_flag ≡ b → then_some b (record_at station_meaning s row k) ≡ station_of (record_at station_meaning s row) n code
      go true stay = sym (found_staying k least stay)
      go false leave = sym (found_gone k least leave)
