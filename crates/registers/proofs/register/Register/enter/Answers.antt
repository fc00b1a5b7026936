use Rattle.std.proofs.Common.{◌+◌, ◌≤◌, length, take, sym, subst, arith}
use Rattle.std.proofs.lemmas.List.{length-take}
use Rattle.files.specs.Files.{record_at}
use Rattle.files.specs.Rows.{row_in}
use Rattle.files.proofs.Judged.{total_of}
use Rattle.registers.specs.Admission.{Entered}
use Rattle.registers.specs.Entries.{Ascending}
use Rattle.registers.specs.Own.{Staying}
use Rattle.registers.proofs.Entering.{room_for, run_entered, run_kept, stay_is}
use Rattle.registers.proofs.register.Register.enter.Goals as goal

pub returns-then-self-stay-clause-entered : goal.returns-then-self-stay-clause-entered
returns-then-self-stay-clause-entered g c h =
    let m = g.K.Kind.meaning in
    let self = c.args.self.now in
    let s = c.args.rows.now.supplier in
    let own = c.staying-start.result.0 in
    let st = subst (λ w. Staying w s c.args.year own.start own.end c.staying-start.result.1) c.run.ensures c.staying-start.ensures in
    let size = stay_is m s (record_at m s (row_in c.args.rows.now)) (take self.used self.entries.now) c.args.year (length c.args.places.now) own.start own.end c.staying-start.result.1 self.ascend st in
    absurd (omega (arith, c.if-self-stay.true, size, h.room))

pub replace_own-after-requires-clause-room : goal.replace_own-after-requires-clause-room
replace_own-after-requires-clause-room g c =
    let self = c.args.self.now in
    let s = c.args.rows.now.supplier in
    let own = c.staying-start.result.0 in
    let st = subst (λ w. Staying w s c.args.year own.start own.end c.staying-start.result.1) c.run.ensures c.staying-start.ensures in
    room_for self.entries.now self.used c.args.year s own.start own.end c.staying-start.result.1 (length c.args.places.now) self.within st (omega (arith, c.if-self-stay.false))

pub invariant_of-self-2 : goal.invariant_of-self-2
invariant_of-self-2 g c =
    let m = g.K.Kind.meaning in
    let self = c.args.self.now in
    let xs = self.entries.now in
    let s = c.args.rows.now.supplier in
    let own = c.staying-start.result.0 in
    let stay = c.staying-start.result.1 in
    let st = subst (λ w. Staying w s c.args.year own.start own.end stay) c.run.ensures c.staying-start.ensures in
    let done = c.replace_own-after.ensures in
    let ys = c.replace_own-after.new.entries in
    let room : stay + length c.args.places.now ≤ length xs = omega (arith, c.if-self-stay.false, st.few, self.within, length-take self.used xs) in
    let kept = run_kept m s (row_in c.args.rows.now) _ g.met.K.Kind.numbered xs self.used c.args.year c.args.places.now self.within self.ascend own.start own.end stay st ys done.count done.replaced
    room c.replace_own-after.auto.entries c.replace_own-after.result (done.single (total_of m.numbers g.met.K.Kind.numbered)) in
    record {
      within = subst (λ k. k ≤ length ys) (sym c.unwrap_or-self.ensures) kept.0;
      ascend = subst (λ k. Ascending m.numbers (take k ys)) (sym c.unwrap_or-self.ensures) kept.1;
    }

pub returns-clause-entered : goal.returns-clause-entered
returns-clause-entered g c h =
    let m = g.K.Kind.meaning in
    let self = c.args.self.now in
    let xs = self.entries.now in
    let s = c.args.rows.now.supplier in
    let own = c.staying-start.result.0 in
    let st = subst (λ w. Staying w s c.args.year own.start own.end c.staying-start.result.1) c.run.ensures c.staying-start.ensures in
    let done = c.replace_own-after.ensures in
    let ys = c.replace_own-after.new.entries in
    subst (λ k. Entered m s (record_at m s (row_in c.args.rows.now)) (take self.used xs) c.args.year (length c.args.places.now) (take k ys)) (sym c.unwrap_or-self.ensures)
    (run_entered m s (row_in c.args.rows.now) _ g.met.K.Kind.numbered xs self.used c.args.year c.args.places.now self.within self.ascend own.start own.end c.staying-start.result.1 st ys done.count done.replaced
    h c.replace_own-after.result (done.single (total_of m.numbers g.met.K.Kind.numbered)))

pub returns-clause-left : goal.returns-clause-left
returns-clause-left g c over =
    let m = g.K.Kind.meaning in
    let self = c.args.self.now in
    let s = c.args.rows.now.supplier in
    let own = c.staying-start.result.0 in
    let st = subst (λ w. Staying w s c.args.year own.start own.end c.staying-start.result.1) c.run.ensures c.staying-start.ensures in
    let size = stay_is m s (record_at m s (row_in c.args.rows.now)) (take self.used self.entries.now) c.args.year (length c.args.places.now) own.start own.end c.staying-start.result.1 self.ascend st in
    absurd (omega (arith, size, over, c.if-self-stay.false, st.few, self.within, length-take self.used self.entries.now))
