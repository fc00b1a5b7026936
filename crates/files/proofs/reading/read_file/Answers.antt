use Rattle.std.proofs.Common.{◌≡◌, ◌+◌, min, ◌++◌, length, take, drop, Err, sym, ap, ◌∙◌, subst, arith}
use Rattle.std.proofs.lemmas.List.{take_at}
use Rattle.std.proofs.lemmas.Bool.{false≢true}
use Rattle.indexes.specs.Places.{SortedPlaces}
use Rattle.files.specs.declared.fault.RowFault.TheVariants.{Twice}
use Rattle.files.specs.Files.{Indexed, file_fault, told}
use Rattle.files.specs.Rows.{row_in}
use Rattle.files.proofs.Judged.{total_of}
use Rattle.files.proofs.Repeated.{Scan, indexed_all, not_repeated, repeat_below, repeated}
use Rattle.files.proofs.Soundness.{told_sound}
use Rattle.files.proofs.reading.read_file.Goals as goal

pub overflow_add-result : goal.overflow_add-result
overflow_add-result g c =
    let m = g.K.Kind.meaning in
    let s = c.args.rows.now.supplier in
    let row = row_in c.args.rows.now in
    let n = c.min-n.result in
    let ps = c.scan-scanned.new.places in
    let scan : Scan m s row n c.rows_read-read.result c.scan-scanned.result ps =
    record { answered = c.scan-scanned.ensures.first; read = c.rows_read-read.ensures; room = omega (arith, c.min.ensures, c.min-n.ensures, c.scan-scanned.auto.places); noted = c.scan-scanned.ensures.noted } in
    let says = g.met.K.Kind.numbered in
    let below = repeat_below m s row n _ _ ps scan says c.in-Some.row (c.in-Some.ensures.first (total_of m.numbers says)).0 in
    omega (arith, below, c.min.ensures, c.min-n.ensures)

pub returns-in-Some : goal.returns-in-Some
returns-in-Some g c =
    let m = g.K.Kind.meaning in
    let s = c.args.rows.now.supplier in
    let row = row_in c.args.rows.now in
    let n = c.min-n.result in
    let ps = c.scan-scanned.new.places in
    let scan : Scan m s row n c.rows_read-read.result c.scan-scanned.result ps =
    record { answered = c.scan-scanned.ensures.first; read = c.rows_read-read.ensures; room = omega (arith, c.min.ensures, c.min-n.ensures, c.scan-scanned.auto.places); noted = c.scan-scanned.ensures.noted } in
    let says = g.met.K.Kind.numbered in
    let few : n ≡ min c.args.count (min (length c.args.places.now) 4096) = omega (arith, c.min.ensures, c.min-n.ensures) in
    let fault = repeated m s row n _ _ ps scan says c.in-Some.row (c.in-Some.ensures.first (total_of m.numbers says)) in
    let first : Err (record { row = c.in-Some.row + 1; fault = Twice c.number_in.result }) ≡ told (file_fault m s row (min c.args.count (min (length c.args.places.now) 4096))) =
    ap (λ k. Err (record { row = c.in-Some.row + 1; fault = Twice k })) c.number_in.ensures ∙ ap told (sym fault ∙ ap (file_fault m s row) few) in
    record { first = first; sound = told_sound m s row _ _ first; index = λ e. absurd (false≢true e) }

pub returns-in-None : goal.returns-in-None
returns-in-None g c =
    let m = g.K.Kind.meaning in
    let s = c.args.rows.now.supplier in
    let row = row_in c.args.rows.now in
    let n = c.min-n.result in
    let ps = c.scan-scanned.new.places in
    let scan : Scan m s row n c.rows_read-read.result c.scan-scanned.result ps =
    record { answered = c.scan-scanned.ensures.first; read = c.rows_read-read.ensures; room = omega (arith, c.min.ensures, c.min-n.ensures, c.scan-scanned.auto.places); noted = c.scan-scanned.ensures.noted } in
    let says = g.met.K.Kind.numbered in
    let few : n ≡ min c.args.count (min (length c.args.places.now) 4096) = omega (arith, c.min.ensures, c.min-n.ensures) in
    let qs = c.first_repeat.new.places in
    let answer = c.scan-scanned.result in
    let first : answer ≡ told (file_fault m s row (min c.args.count (min (length c.args.places.now) 4096))) =
    subst (λ w. answer ≡ told (file_fault m s row w)) few (not_repeated m s row n _ _ ps scan says (c.in-None.ensures.first (total_of m.numbers says))) in
    record {
      first = first;
      sound = told_sound m s row _ answer first;
      index = λ ok room.
          let all : n ≡ c.args.count = omega (arith, few, room) in
          let i = indexed_all m s row n _ _ ps scan qs c.first_repeat.ensures.same ok in
          let front : take c.args.count (qs ++ drop c.rows_read-read.result ps) ≡ qs = take_at qs _ c.args.count (i.1 ∙ all) in (
            subst (λ x. Indexed m s row c.args.count x) (sym front) (subst (λ w. Indexed m s row w qs) all i.0),
            λ o. subst (λ x. SortedPlaces o x) (sym front) (c.first_repeat.ensures.sorted o),
          );
    }
