use Rattle.std.proofs.Common.{filter, sym, ap, ◌∙◌, subst}
use Rattle.registers.specs.Entries.{is_own}
use Rattle.registers.specs.Own.{BySupplier}
use Rattle.registers.proofs.Split.{by_supplier}
use Rattle.registers.proofs.register.Register.own.Goals as goal

pub returns : goal.returns
returns g c =
    c.own_of.ensures (subst BySupplier (sym c.run.ensures) (by_supplier g.K.Kind.meaning.numbers _ c.args.self.now.ascend))
    ∙ ap (filter (is_own c.args.supplier)) c.run.ensures
