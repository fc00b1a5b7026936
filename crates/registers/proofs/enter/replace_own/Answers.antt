use Rattle.std.proofs.Common.{◌≡◌, ℕ, ◌+◌, ◌-◌, ◌≤◌, Bool, true, false, ◌++◌, map, length, filter, sym, refl, ◌∙◌, subst, arith, MatchBool, MatchOption}
use Rattle.std.specs.Bool.{then_some}
use borrow.Rule.Slice.PartMut.{put_mid}
use Rattle.std.specs.List.Sorted.{IsPermutation, IsStrictlySortedBy}
use Rattle.std.proofs.lemmas.List.Sorted.{length_permutation, IsPermutation-trans}
use Rattle.std.proofs.lemmas.List.Sums.{count_by-le-length}
use Rattle.files.specs.Files.{record_at}
use Rattle.files.specs.Rows.{row_in}
use Rattle.registers.specs.Admission.{row_entry}
use Rattle.registers.specs.Entries.{ids, stays_blocked}
use Rattle.registers.specs.Ids.{id_cmp}
use Rattle.registers.specs.Own.{part}
use Rattle.registers.proofs.Memory.{offset_fits}
use Rattle.registers.proofs.Replacing.{all_is, front_is, length_put, part_is}
use Rattle.registers.proofs.Shifts.{length_of_part}
use Rattle.registers.proofs.enter.replace_own.Goals as goal

pub offset_bounds-entries-start-2 : goal.offset_bounds-entries-start-2
offset_bounds-entries-start-2 g c = offset_fits _ _ _ c.well_formed.0.1 (omega arith)

pub offset_bounds-entries-start-3 : goal.offset_bounds-entries-start-3
offset_bounds-entries-start-3 g c = offset_fits _ _ _ c.well_formed.0.1 (omega arith)

-- the count, where no number stands twice
answered : (b : Bool) (n : ℕ) (Y Z : Type 0) → MatchBool b Y Z → MatchOption (then_some b n) Z (λ k. (k ≡ n) × Y)
answered true n Y Z h = (refl, h)
answered false n Y Z h = h

pub returns : goal.returns
returns g c =
    let x0 = c.args.entries.now in
    let x2 = c.shift.new.xs in
    let start = c.args.own.start in
    let end = c.args.own.end in
    let used = c.args.used in
    let b = c.keep_blocked-blocked.result in
    let n = length c.args.places.now in
    let own = c.keep_blocked-blocked.new.own in
    let kept = filter (stays_blocked c.args.year) (part start end x0) in
    let merged = c.merge.new.own in
    let sorted = c.sort-single.new.entries in
    let count = c.keep_blocked-blocked.ensures.count in
    let front = c.keep_blocked-blocked.ensures.front in
    let part-long = length_of_part x0 start end (omega arith) in
    let few : b ≤ end - start = omega (arith, count_by-le-length (stays_blocked c.args.year) (part start end x0), count, part-long) in
    let long-own : length own ≡ end - start = c.keep_blocked-blocked.auto.own ∙ part-long in
    let room : start + b + n + (used - end) ≤ length x0 = omega (arith, c.requires.room, count, c.requires.within.0, c.requires.within.1) in
    let long : length x2 ≡ length x0 = c.shift.auto.xs ∙ length_put x0 own start (end - start) long-own (omega arith) in
    let until = start + b + n in
    let low = c.shift.ensures.front in
    let moved = c.shift.ensures.moved in
    let long-part = length_of_part x2 start (start + b + n) (omega (arith, long, room)) in
    let long-merged : length merged ≡ start + b + n - start = c.merge.auto.own ∙ long-part in
    let x3 = put_mid start (start + b + n - start) x2 merged in
    let here : part start (start + b + n) x3 ≡ merged =
    part_is x0 x2 own kept start end used b n c.requires.within.0 c.requires.within.1 c.requires.within.2 long-own few front room long low moved merged merged long-merged long-merged in
    let sorts : IsPermutation merged sorted = subst (λ w. IsPermutation w sorted) here c.sort-single.ensures.same in
    let long-sorted : length sorted ≡ start + b + n - start = length_permutation merged sorted sorts ∙ long-merged in
    let blocked = front_is x0 x2 own kept start end used b n c.requires.within.0 c.requires.within.1 c.requires.within.2 long-own few front room long low moved in
    let m = g.K.Kind.meaning in
    let rows = c.args.rows.now in
    let made = map (λ p. row_entry m rows.supplier (record_at m rows.supplier (row_in rows)) c.args.year p.row) c.args.places.now in
    let to-merged : IsPermutation (kept ++ made) merged = subst (λ w. IsPermutation (w ++ made) merged) blocked c.merge.ensures in
    record {
      count = until + (used - end);
      replaced = record {
        own = sorted;
        shuffled = IsPermutation-trans (kept ++ made) merged sorted to-merged sorts;
        ascends = λ _. c.sort-single.ensures.sorted;
        all = all_is x0 x2 own kept start end used b n c.requires.within.0 c.requires.within.1 c.requires.within.2 long-own few front room long low moved merged sorted long-merged long-sorted;
        count = omega (arith, length_permutation (kept ++ made) merged to-merged, long-merged);
      };
      single = λ o.
          let single = IsStrictlySortedBy (id_cmp g.K.Number.Ord.cmp) (ids sorted) in
          subst (λ a. MatchOption a (single → ⊥) (λ k. (k ≡ until + (used - end)) × single)) (sym c.then_some.ensures) (answered c.sort-single.result (until + (used - end)) single (single → ⊥) (c.sort-single.ensures.single o));
    }
