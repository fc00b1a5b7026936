-- Every definition computes on bytes that are written out.
use Rattle.std.proofs.Common.{◌+◌, cond, refl, ap, ◌∙◌}
use Rattle.fields.specs.Bytes.{columns, text, value}
use Rattle.fields.specs.Calendar.{date, day_of, on_calendar}
use Rattle.fields.specs.Flags.{amended, key_flag}
use Rattle.fields.specs.Rules.{fault}
use Rattle.deliveries.specs.Head.{head_fault}
use Rattle.fields.specs.Flags.{stays}
use Rattle.registers.specs.declared.entry.Standing.TheVariants.{Live, Retired}
use Rattle.registers.specs.Admission.{unless_new}
use Rattle.examples.proofs.First.{following, fresh}
use Rattle.examples.proofs.examples_hold.Goals as goal

pub returns : goal.returns
unfolding amended columns date day_of fault head_fault key_flag on_calendar text value
returns c =
    record {
      head_read = refl;
      head_supplier = λ h b. b.supplier;
      length_91 = refl;
      leap_day = refl;
      no_leap_day = refl;
      full_century = refl;
      month_13 = refl;
      table_0999 = refl;
      table_1000 = refl;
      flag_3_in_new = refl;
      flag_3 = refl;
      zone_flag_0 = refl;
      zone_flag_3 = refl;
      fresh_book = fresh;
      first_receipt = λ st after h o a. a.receipts ∙ ap (λ n. n + 1) o.receipts;
      next_version = λ l h p q u v. following l h 2026 1 1 2 p q u v;
      next_day = λ l h p q u v. following l h 2026 1 2 1 p q u v;
      version_left_out = λ l h p q u v. following l h 2026 1 1 3 p q u v;
      next_day_second_version = λ l h p q u v. following l h 2026 1 2 2 p q u v;
      day_before = λ l h p q u v. following l h 2025 12 31 1 p q u v;
      deleted_on = refl;
      retired = λ r e. ap (λ k. cond (stays k) (Live r.told) (Retired 2005)) e;
      too_early_on = refl;
      blocked = λ r. refl;
      free_on = refl;
      free = λ r e. ap (λ k. unless_new k r.number) e;
    }
