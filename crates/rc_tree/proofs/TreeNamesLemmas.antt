-- The numbers of a tree are kept if they are kept part by part.
use Rattle.std.proofs.Common.{◌≡◌, ◌∙◌, All, Ok, ap, subst, sym}
use Rattle.std.specs.List.{flat_map}
use Rattle.std.specs.Prelude.{IfOk}
use Rattle.rc_hir.specs.Model.{Environment}
use Rattle.rc_hir.specs.Names.{IsInTable, lengths}
use Rattle.rc_hir.specs.PartNames.{parameter_names}
use Rattle.rc_names.specs.Numbers.{EvaluationOrder}
use Rattle.rc_tree.proofs.Measures.{Measure, Compositional, block, one}
use Rattle.rc_tree.specs.Model.{ReactiveBlock, ReactiveFunction, ReactiveScopeBlock}
use Rattle.rc_tree.specs.Pruned.{as_pruned}
use Rattle.rc_tree.specs.Rebuilt.{Rules, rebuilt_block}
use Rattle.rc_tree.specs.declared.statement.ReactiveStatement.TheVariants as reactive
use Rattle.rc_tree.specs.TreeNames.{Names, TreeInTables, names_in, names_of_parts}
use Rattle.rc_tree.proofs.CollectedKeeps.{collected_laws, collected_measure, same_alone, same_block}
use Rattle.rc_tree.proofs.CollectedLemmas.{collected-PrunedScope, collected-Scope}
use Rattle.rc_tree.proofs.JoiningLemmas.{lists_monoid}
use Rattle.rc_tree.proofs.RebuiltKeeps.{RulesKeep, rebuilt_keeps}

-- the numbers of a part, as a measure that is determined by its parts
abbrev pub names_measure : Measure Names (EvaluationOrder → Names) Names
names_measure = collected_measure names_of_parts

pub names_laws : Compositional names_measure
names_laws = collected_laws names_of_parts lists_monoid

-- a pass whose rules keep the numbers of their parts keeps those of the tree
pub names_kept : {S : Type 0} (rules : Rules S) → RulesKeep names_measure rules → (before after : ReactiveBlock)
    (s t : S) → rebuilt_block rules before s ≡ Ok (t, after) → names_in after ≡ names_in before
names_kept rules keep before after s t is =
    same_block names_of_parts before after (subst (λ e. IfOk e (λ a. block names_measure a.1 ≡ block names_measure
    before)) is (rebuilt_keeps names_measure names_laws rules keep before s))

-- a scope block has the same numbers as a pruned one
pub pruned_names : (x : ReactiveScopeBlock)
    → one names_measure (reactive.PrunedScope (as_pruned x)) ≡ one names_measure (reactive.Scope x)
pruned_names x = same_alone names_of_parts (reactive.Scope x) (reactive.PrunedScope (as_pruned x))
    (collected-PrunedScope names_of_parts (as_pruned x) ∙ sym (collected-Scope names_of_parts x))

-- where a pass changes a body whose numbers stay, they are in their tables as before
pub still_known : (env : Environment) (old new : ReactiveFunction) → new ≡ record old { body = new.body }
    → names_in new.body ≡ names_in old.body → TreeInTables old env → TreeInTables new env
still_known env old new header same known = record {
  params = subst (λ params. All (IsInTable (lengths env 0)) (flat_map parameter_names params))
      (sym (ap (λ f. f.params) header)) known.params;
  body = subst (All (IsInTable (lengths env 0))) (sym same) known.body;
  functions = known.functions;
  environment = known.environment;
}
