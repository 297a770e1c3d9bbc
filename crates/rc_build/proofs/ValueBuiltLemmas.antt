-- What the builder ensures of a block of a value that it marks, and of the last one.
use Rattle.std.proofs.Common.{◌≡◌, false, List, [], ◌∷◌, Some, None, sym, ap, ◌∙◌, subst}
use Rattle.std.proofs.Common.{option_and_then}
use Rattle.rc_names.specs.Numbers.{BlockId}
use Rattle.rc_hir.specs.Model.{BasicBlock, Terminal, HirFunction, Environment}
use Rattle.rc_runs.specs.Graph.{basic_block}
use Rattle.rc_runs.specs.ListContext.{ValueContext}
use Rattle.rc_build.specs.declared.builder.Marks.{Marks}
use Rattle.rc_build.specs.declared.values.BuiltValue.{BuiltValue}
use Rattle.rc_build.specs.References.{referenced_blocks}
use Rattle.rc_build.specs.inside.CanBuild.{CanBuildList}
use Rattle.rc_build.specs.inside.Marks.{CanMark, Marked, MarksBlocks}
use Rattle.rc_build.specs.inside.Task.{Progress}
use Rattle.rc_build.specs.inside.Throws.{may_throw, throw_at}
use Rattle.rc_build.specs.inside.ValueKinds.{terminal_at, value_terminal}
use Rattle.rc_build.specs.inside.ValueEnds.{IsValueOf, SpellsNoValue}
use Rattle.rc_build.specs.inside.Values.{HasNoValue, ValueBuilt, any_end}
use Rattle.rc_build.proofs.UsableLemmas.{usable_ids}
use Rattle.rc_build.proofs.ValueLemmas.{value_block}

nowhere : ValueContext
nowhere = record { around = None; handler = None; is_test = false }

module _ (hir : HirFunction) (key : BlockId) {block : BasicBlock} (found : basic_block hir key ≡ Some block) where
  -- a block that doesn't end in a value terminal
  pub no_terminal : terminal_at hir key ≡ None → value_terminal block.terminal ≡ None
  no_terminal none = sym (ap (option_and_then (λ (b : BasicBlock). value_terminal b.terminal)) found) ∙ none

  -- and doesn't throw
  pub no_throw_at : throw_at hir key ≡ None → may_throw block.terminal ≡ None
  no_throw_at none = sym (ap (option_and_then (λ (b : BasicBlock). may_throw b.terminal)) found) ∙ none

  -- the block of a value that is made can be marked
  pub end_can : {marks : Marks} {env : Environment} {built : BuiltValue} → CanBuildList hir marks None [] key → IsValueOf hir env key block.terminal built → CanMark hir marks key block
  end_can can is =
      let at = value_block (is.spelled nowhere) in record {
        can = can;
        found = found;
        ids = usable_ids hir key block at.whole found at.usable;
      }

-- a value of one block is built, once that is marked
pub end_built : {hir : HirFunction} {env : Environment} {key : BlockId} {terminal : Terminal} {built : BuiltValue}
    {old new : Progress} (context : ValueContext) → IsValueOf hir env key terminal built
    → Marked hir key terminal old new → ValueBuilt hir env key context any_end built old new
end_built {hir} {key = key} {old = old} {new} context is m = record {
  value = is.value;
  end = is.end;
  newly = key ∷ [];
  is = is.is;
  spelled = is.spelled context;
  ends = tt;
  marking = subst (λ t. MarksBlocks hir (key ∷ []) (referenced_blocks t) old.marks new.marks (key ∷ []))
      (sym is.at_end) m.marking;
  kept = m.kept;
}

pub none_there : {hir : HirFunction} {env : Environment} {key : BlockId} (used : List BlockId) (context : ValueContext)
    → SpellsNoValue hir env key → HasNoValue hir env key context any_end used
none_there used context none value end blocks d asked sound = none context value end blocks d
