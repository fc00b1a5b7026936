use Rattle.std.proofs.Common.{length, take, refl, ◌∙◌, subst}
use Rattle.std.proofs.lemmas.Result.{err_from_is_err_and}
use Rattle.files.specs.Files.{record_at}
use Rattle.files.specs.Rows.{row_in}
use Rattle.registers.specs.Indexes.{Index}
use Rattle.registers.specs.Own.{Staying}
use Rattle.registers.proofs.Verdict.{fault_is, indexed, missing_is, passes, rows_refused}
use Rattle.registers.proofs.Split.{by_supplier}
use Rattle.registers.proofs.register.Register.check_file.Goals as goal

pub returns-in_err-check_rows-clause-first : goal.returns-in_err-check_rows-clause-first
returns-in_err-check_rows-clause-first g c =
    let m = g.K.Kind.meaning in
    let rows = c.args.rows.now in
    let self = c.args.self.now in
    let p = err_from_is_err_and c.from_residual.result c.from_residual.ensures.1 in
    rw (p.1, p.2)
    (rows_refused m rows.supplier (record_at m rows.supplier (row_in rows)) (take self.used self.entries.now) c.args.year (length c.args.places.now) _ c.in_err-check_rows.ensures.first)

pub returns-in_err-check_missing-clause-first : goal.returns-in_err-check_missing-clause-first
returns-in_err-check_missing-clause-first g c =
    let m = g.K.Kind.meaning in
    let rows = c.args.rows.now in
    let s = rows.supplier in
    let r = record_at m s (row_in rows) in
    let self = c.args.self.now in
    let es = take self.used self.entries.now in
    let n = length c.args.places.now in
    let qs = c.first_repeat.new.places in
    let start = c.staying-stay.result.0.start in
    let end = c.staying-stay.result.0.end in
    let st = subst (λ w. Staying w s c.args.year start end c.staying-stay.result.1) c.run-run.ensures c.staying-stay.ensures in
    let own = st.own (by_supplier m.numbers es self.ascend) in
    let index : Index m s (row_in rows) _ qs =
    indexed m s (row_in rows) _ n c.check_rows.new.places qs c.check_rows.auto.places (c.in_ok-check_rows.ensures.noted refl) c.first_repeat.ensures.same c.first_repeat.ensures.sorted in
    let missing = missing_is m s (row_in rows) _ es c.run-run.ensures n start end st.first st.last own self.ascend qs index (c.first_repeat.auto.places ∙ c.check_rows.auto.places) _
    (c.in_err-check_missing.ensures s (row_in rows)) in
    let p = err_from_is_err_and c.from_residual-in_err-check_missing.result c.from_residual-in_err-check_missing.ensures.1 in
    rw (p.1, p.2)
    (fault_is m s r es c.args.year n start end st.first st.last own _ c.in_ok-check_rows.ensures.first missing)

pub returns : goal.returns
returns g c =
    let m = g.K.Kind.meaning in
    let rows = c.args.rows.now in
    let s = rows.supplier in
    let r = record_at m s (row_in rows) in
    let self = c.args.self.now in
    let es = take self.used self.entries.now in
    let n = length c.args.places.now in
    let qs = c.first_repeat.new.places in
    let start = c.staying-stay.result.0.start in
    let end = c.staying-stay.result.0.end in
    let st = subst (λ w. Staying w s c.args.year start end c.staying-stay.result.1) c.run-run.ensures c.staying-stay.ensures in
    let own = st.own (by_supplier m.numbers es self.ascend) in
    let index : Index m s (row_in rows) _ qs =
    indexed m s (row_in rows) _ n c.check_rows.new.places qs c.check_rows.auto.places (c.in_ok-check_rows.ensures.noted refl) c.first_repeat.ensures.same c.first_repeat.ensures.sorted in
    let missing = missing_is m s (row_in rows) _ es c.run-run.ensures n start end st.first st.last own self.ascend qs index (c.first_repeat.auto.places ∙ c.check_rows.auto.places) _
    (c.in_ok-check_missing.ensures s (row_in rows)) in
    record {
      first = passes m s r es c.args.year n start end st.first st.last own _ c.in_ok-check_rows.ensures.first missing st.count;
      index = λ _. index;
    }
