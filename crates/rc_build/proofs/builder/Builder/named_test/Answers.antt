use Rattle.std.proofs.Common.{refl, sym, ◌∙◌}
use Rattle.rc_build.proofs.ValueMadeLemmas.{named_made, spells_unnamed}
use Rattle.rc_build.proofs.builder.Builder.named_test.Goals as goal

pub returns-in_default-clause-refused : goal.returns-in_default-clause-refused
returns-in_default-clause-refused c = λ named rule e.
    spells_unnamed c.args.self.now.hir.now c.args.key c.args.terminal.now c.requires (sym c.place_named.ensures ∙ c.in_default.is)

pub returns-clause-ok : goal.returns-clause-ok
returns-clause-ok c = named_made c.args.self.now.hir.now c.args.key c.args.terminal.now c.requires c.in-Some.named _
    (sym c.place_named.ensures ∙ c.in-Some.is) c.in_ok-load.ensures refl refl refl refl refl
