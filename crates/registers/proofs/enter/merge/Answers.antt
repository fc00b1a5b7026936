use Rattle.std.proofs.Common.{refl, ap, ◌∙◌, arith}
use Rattle.files.specs.Files.{record_at}
use Rattle.files.specs.Rows.{row_in}
use Rattle.registers.specs.Admission.{row_entry}
use Rattle.registers.proofs.Memory.{offset_fits}
use Rattle.registers.proofs.Merging.{merging_all, merging_front, merging_none, merging_row}
use Rattle.registers.proofs.enter.merge.Goals as goal

pub loop-left-preserved : goal.loop-left-preserved
loop-left-preserved g c =
    let m = g.K.Kind.meaning in
    let rows = c.args.rows.now in
    let r = record_at m rows.supplier (row_in rows) in
    let h = c.loop-left.invariant in
    merging_row (λ p. row_entry m rows.supplier r c.args.year p.row) c.args.places.now c.args.own.now c.args.blocked c.loop-left.own _ c.loop-left.blocked c.loop-left.left
    h c.loop-left-test.true c.entry_at.result c.index-places-left.result
    (c.entry_at.ensures ∙ ap (λ p. row_entry m rows.supplier r c.args.year p.row) c.index-places-left.is) refl

pub loop-left-preserved-then-is_above : goal.loop-left-preserved-then-is_above
loop-left-preserved-then-is_above g c =
    let m = g.K.Kind.meaning in
    let rows = c.args.rows.now in
    let r = record_at m rows.supplier (row_in rows) in
    merging_front (λ p. row_entry m rows.supplier r c.args.year p.row) c.args.places.now c.args.own.now c.args.blocked c.loop-left.own _ c.loop-left.blocked c.loop-left.left
    c.loop-left.invariant c.loop-left-test.true c.index-own-blocked-then-is_above.result c.index-own-blocked-then-is_above.result c.if-blocked-gt0.true c.index-own-blocked-then-is_above.is refl

pub offset_bounds-own-blocked : goal.offset_bounds-own-blocked
offset_bounds-own-blocked g c = offset_fits _ _ _ c.well_formed.0.1 (omega (arith, c.loop-left.invariant.room))

pub offset_bounds-own-blocked-then-is_above : goal.offset_bounds-own-blocked-then-is_above
offset_bounds-own-blocked-then-is_above g c = offset_fits _ _ _ c.well_formed.0.1 (omega (arith, c.loop-left.invariant.room))

pub offset_bounds-own-blocked-then-is_above-2 : goal.offset_bounds-own-blocked-then-is_above-2
offset_bounds-own-blocked-then-is_above-2 g c = offset_fits _ _ _ c.well_formed.0.1 (omega (arith, c.loop-left.invariant.room))

pub offset_bounds-own-blocked-else-blocked-gt0 : goal.offset_bounds-own-blocked-else-blocked-gt0
offset_bounds-own-blocked-else-blocked-gt0 g c = offset_fits _ _ _ c.well_formed.0.1 (omega (arith, c.loop-left.invariant.room))

pub loop-left-init : goal.loop-left-init
loop-left-init g c =
    let m = g.K.Kind.meaning in
    let rows = c.args.rows.now in
    let r = record_at m rows.supplier (row_in rows) in
    merging_none (λ p. row_entry m rows.supplier r c.args.year p.row) c.args.places.now c.args.own.now c.args.blocked c.requires

pub returns : goal.returns
returns g c =
    let m = g.K.Kind.meaning in
    let rows = c.args.rows.now in
    let r = record_at m rows.supplier (row_in rows) in
    merging_all (λ p. row_entry m rows.supplier r c.args.year p.row) c.args.places.now c.args.own.now c.args.blocked c.loop-left.own c.loop-left.blocked c.loop-left.left c.loop-left-test.false c.loop-left.invariant
