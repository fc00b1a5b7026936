use Rattle.std.proofs.Common.{◌≡◌, rules}
use Rattle.kinds.specs.Meaning.{compares}
use Rattle.kinds.proofs.Compared.{amended_compares, deleted_compares}
use Rattle.kinds.proofs.kind.Kind.compare.Goals as goal

pub returns-clause-amended : goal.returns-clause-amended
returns-clause-amended g c =
    let t = c.args.older.now in
    let r = c.args.self.now in
    let value : c.first_fault.result ≡ compares g.Self.Kind.meaning t r = search rules in
    amended_compares g.Self.Kind.meaning t r _ value

pub returns-clause-deleted : goal.returns-clause-deleted
returns-clause-deleted g c =
    let t = c.args.older.now in
    let r = c.args.self.now in
    let value : c.first_fault.result ≡ compares g.Self.Kind.meaning t r = search rules in
    λ d. deleted_compares g.Self.Kind.meaning t r _ value (g.met.Self.Kind.unchanged t r d) (g.met.Self.Kind.alike t r d) d
