use Rattle.std.proofs.Common.{◌≡◌, ◌<◌, length, take, None, sym, subst, refl, rules, arith, below_more}
use Rattle.std.specs.Result.{IfOk, result_err}
use Rattle.std.proofs.lemmas.Bool.{false≢true}
use Rattle.std.proofs.lemmas.Result.{err_from_is_err_and}
use Rattle.files.specs.Files.{record_at}
use Rattle.files.specs.Rows.{row_in}
use Rattle.files.proofs.Scans.{noted_more}
use Rattle.registers.specs.Admission.{row_refusal}
use Rattle.registers.proofs.Rows.{none_refused, ok_before, refused_on}
use Rattle.registers.proofs.register.Register.check_rows.Goals as goal

pub returns-in_err-number-clause-first : goal.returns-in_err-number-clause-first
returns-in_err-number-clause-first g c =
    let m = g.K.Kind.meaning in
    let rows = c.args.rows.now in
    let p = err_from_is_err_and c.from_residual.result c.from_residual.ensures.1 in
    rw (p.1, p.2)
    (refused_on m rows.supplier c.args.year (record_at m rows.supplier (row_in rows)) (take c.args.self.now.used c.args.self.now.entries.now) (length c.args.places.now)
    c.loop-i.i c.check_row.result c.map_err.result _ c.map_err.ensures.cases (λ e d q. search rules) c.in_err-number.field-0.0 c.in_err-number.was
    (omega arith) c.loop-i.invariant.0 c.check_row.ensures.first)

pub loop-i-preserved : goal.loop-i-preserved
loop-i-preserved g c =
    let m = g.K.Kind.meaning in
    let rows = c.args.rows.now in
    let i = c.loop-i.i in
    let long : i < length c.loop-i.places = omega arith in
    let ok = ok_before c.check_row.result c.map_err.result _ c.map_err.ensures.cases c.in_ok-number.number c.in_ok-number.was in
    let number = subst (λ r. IfOk r (λ n. n ≡ m.number (record_at m rows.supplier (row_in rows) i))) ok c.check_row.ensures.number in
    let none = subst (λ r. result_err r ≡ row_refusal m rows.supplier (record_at m rows.supplier (row_in rows)) (take c.args.self.now.used c.args.self.now.entries.now) c.args.year i) ok c.check_row.ensures.first in (
      below_more (λ k. row_refusal m rows.supplier (record_at m rows.supplier (row_in rows)) (take c.args.self.now.used c.args.self.now.entries.now) c.args.year k ≡ None) i
          c.loop-i.invariant.0 (sym none),
      noted_more m rows.supplier (row_in rows) i c.loop-i.places _ c.in_ok-number.number long number refl c.loop-i.invariant.1,
    )

pub returns-clause-first : goal.returns-clause-first
returns-clause-first g c =
    let m = g.K.Kind.meaning in
    let rows = c.args.rows.now in
    none_refused m rows.supplier c.args.year (record_at m rows.supplier (row_in rows)) (take c.args.self.now.used c.args.self.now.entries.now) (length c.args.places.now)
    (λ k l. c.loop-i.invariant.0 k (omega arith))
