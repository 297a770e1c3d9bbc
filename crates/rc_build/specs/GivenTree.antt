-- What is said of a graph and a tree that is given.
use Rattle.std.specs.Prelude.{◌≡◌, ◌⊎◌}
use Rattle.rc_hir.specs.Model.{Fault, HirFunction, Environment}
use Rattle.rc_hir.specs.declared.fault.Fault.TheVariants as faults
use Rattle.rc_hir.specs.declared.fault.Rule.TheVariants as rules
use Rattle.rc_build.specs.declared.given_tree.Broken.{Broken}
use Rattle.rc_build.specs.BuildCauses.{SpellsNone, IsBuildCause}
use Rattle.rc_build.specs.RuleFacts.{RuleFact}

-- The graph's entry is named with `OtherTree`; or the graph spells no function at all, and the rule's fact holds of
-- the block.
abbrev pub IsBroken : HirFunction → Environment → Broken → Type 0
IsBroken hir env broken =
    ((broken.block ≡ hir.body.entry) × (broken.rule ≡ rules.OtherTree))
    ⊎ (SpellsNone hir env × RuleFact hir broken.rule broken.block)

-- Why there is no answer: the builder's causes, but for those that say that the graph spells no function.
abbrev pub IsNoAnswerCause : HirFunction → Environment → Fault → Type 0
IsNoAnswerCause hir env (faults.Malformed block rule) = ⊥
IsNoAnswerCause hir env (faults.Todo block) = ⊥
IsNoAnswerCause hir env fault = IsBuildCause hir env fault
