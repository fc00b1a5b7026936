-- The empty delivery has no fault.
use Rattle.std.proofs.Common.{◌≡◌, ℕ, true, List, [], ◌∷◌, is_some, Some, None, Option, sym, refl, ap, ◌∙◌}
use Rattle.std.specs.Option.{option_map}
use Rattle.fields.specs.declared.date.Date.{Date}
use Rattle.fields.specs.Bytes.{columns, value}
use Rattle.fields.specs.Calendar.{date, day_of, on_calendar}
use Rattle.fields.specs.Rules.{fault}
use Rattle.files.specs.Files.{file_fault}
use Rattle.files.proofs.Firsts.{some_none}
use Rattle.deliveries.specs.Delivery.{delivery_fault}
use Rattle.deliveries.specs.Head.{head_fault}
use Rattle.deliveries.proofs.Parts.{first_of_rows}
use Rattle.deliveries.proofs.Verdict.{kept_head}

abbrev pub empty : List ℕ
empty = 51 ∷ (48 ∷ (48 ∷ (48 ∷ (48 ∷ (48 ∷ (48 ∷ (48 ∷ (48 ∷ (48 ∷ (48 ∷ (48 ∷ (48 ∷ (48 ∷ (48 ∷ (48 ∷ (48 ∷ (48 ∷ (48 ∷ (48 ∷ (48 ∷ (48 ∷ (48 ∷ (48 ∷ (48 ∷ (57 ∷ (50 ∷ (48 ∷ (55 ∷ (51 ∷ (50 ∷ (48 ∷ (55 ∷ (48 ∷ (48 ∷ (48 ∷ (48 ∷ (50 ∷ (48 ∷ (48 ∷ (48 ∷ (48 ∷ (49 ∷ (48 ∷ (49 ∷ (48 ∷ (49 ∷ []))))))))))))))))))))))))))))))))))))))))))))))

no_head_fault : head_fault empty ≡ None
unfolding head_fault fault columns value date day_of on_calendar
no_head_fault = refl

pub no_fault : delivery_fault empty ≡ None
unfolding columns value file_fault
no_fault = kept_head empty None no_head_fault (first_of_rows empty None None None None refl refl refl refl)

-- its day, as it is made and as it is read
abbrev parts : Date → ℕ × ℕ × ℕ
parts d = (d.year, d.month, d.day)

made : day_of 2000 1 1 ≡ Some (2000, 1, 1)
unfolding day_of on_calendar
made = refl

written : date (columns 38 45 empty) ≡ Some (2000, 1, 1)
unfolding date day_of on_calendar columns value
written = refl

pub is_day : (o : Option Date) → option_map parts o ≡ day_of 2000 1 1 → is_some o ≡ true
is_day None e = absurd (some_none _ (sym (e ∙ made)))
is_day (Some d) e = refl

pub day_is : (o : Option Date) (d : Date) → option_map parts o ≡ day_of 2000 1 1 → o ≡ Some d → parts d ≡ (2000, 1, 1)
day_is o d e f = let g : Some (parts d) ≡ Some (2000, 1, 1) = ap (option_map parts) (sym f) ∙ (e ∙ made) in cc

pub day_in : (d : Date) → parts d ≡ (2000, 1, 1) → Some (parts d) ≡ date (columns 38 45 empty)
day_in d e = ap Some e ∙ sym written
