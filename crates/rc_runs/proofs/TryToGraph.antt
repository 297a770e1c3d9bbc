-- How runs of the graph go on after the protected block of a try, where nothing throws.
use Rattle.std.proofs.Common.{◌≡◌, List, [], ◌++◌, Bool, Option, refl}
use Rattle.rc_names.specs.Numbers.{BlockId}
use Rattle.rc_tree.specs.Model.{ReactiveLabel}
use Rattle.rc_hir.specs.Model.{Terminal, HirFunction, Environment}
use Rattle.rc_runs.specs.declared.frames.Frame.TheVariants as frame_kinds
use Rattle.rc_runs.specs.Event.{Event}
use Rattle.rc_runs.specs.GraphRun.{Edge, HasNoUnreachableSuccessor, GraphRun}
use Rattle.rc_runs.specs.PlainTree.{Statements}
use Rattle.rc_runs.specs.ListContext.{ListContext, inside, protected_by}
use Rattle.rc_runs.specs.Fallthrough.{label_of}
use Rattle.rc_runs.specs.Grammar.{SpellsList}
use Rattle.rc_runs.specs.Completion.{Completion, caught}
use Rattle.rc_runs.proofs.FramesLemmas.{Fits, fits_inside, fits_protected, leaving, aims_labeled, aims_protected}
use Rattle.rc_runs.proofs.AliveBlocks.{AllAlive}
use Rattle.rc_runs.proofs.AfterParts.{After, Carries, behind_label, in_part}

-- the protected block of a try, which has a label if its fallthrough is opened
pub protected_part : {hir : HirFunction} {env : Environment} {terminal : Terminal} {step : List Event} {key : BlockId}
    {label : Option ReactiveLabel} {context : ListContext} {part : Statements} {used : List BlockId}
    {events : List Event} {inner outer : Completion} (opened : Bool) (fallthrough handler : BlockId) → Fits context
    → label ≡ label_of opened fallthrough → outer ≡ caught label inner → Edge terminal step key
    → SpellsList hir env key (protected_by handler (inside opened (frame_kinds.Statement fallthrough) context)) part
    used
    → HasNoUnreachableSuccessor hir terminal → AllAlive hir used
    → Carries hir env (protected_by handler (inside opened (frame_kinds.Statement fallthrough) context)) part events
    inner
    → After hir env (leaving opened fallthrough context) (GraphRun hir env [] terminal) (step ++ events) outer
protected_part {label = label} {context} {inner = inner} opened f handler fits l q move d moves alive carries =
    let around = inside opened (frame_kinds.Statement f) context in
    behind_label label
    (in_part move d (fits_protected handler (fits_inside opened (frame_kinds.Statement f) refl tt fits)) moves alive carries)
    (λ key aim. aims_labeled opened (frame_kinds.Statement f) f context label refl refl refl l inner key
    (aims_protected handler around inner key aim)) q
