use Rattle.std.proofs.Common.{rules, ◌≡◌, take, None, fold, sym, ap, ◌∙◌}
use Rattle.std.specs.Option.{option_map}
use Rattle.books.specs.Join.{joined, with_series}
use Rattle.books.proofs.Nearest.{folded_own, nearest_is}
use Rattle.books.proofs.book.Book.join.Goals as goal

pub returns : goal.returns
unfolding joined
returns c =
    let book = c.args.self.now in
    let es = take book.series.used book.series.entries.now in
    let among = c.join_among.ensures ∙ (ap (fold (with_series c.args.one c.args.other) None) c.own.ensures ∙ sym (folded_own c.args.supplier c.args.one c.args.other es None)) in
    let mapped : c.map.result ≡ option_map (λ x. x.1) c.join_among.result = search rules in
    let value = mapped ∙ ap (option_map (λ x. x.1)) among in
    record { value = value; nearest = nearest_is c.args.supplier c.args.one c.args.other es c.map.result value }
