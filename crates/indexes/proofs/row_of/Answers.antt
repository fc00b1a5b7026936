use Rattle.indexes.proofs.Found.{Lowest, least_from_lowest, lowest_located}
use Rattle.indexes.proofs.row_of.Goals as goal

pub returns : goal.returns
returns g c o up =
    let ps = c.args.places.now in
    let n = c.args.number in
    let i = c.in-Ok.i in
    let said = c.binary_search.ensures in
    let low : Lowest o n ps i = lowest_located o n ps up i c.binary_search.result c.in-Ok.is said.bound said.position in
    least_from_lowest o n ps i low c.row_at.result (c.row_at.ensures o)
