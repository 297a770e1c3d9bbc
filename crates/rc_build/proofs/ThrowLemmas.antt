-- Blocks of a list that may throw, throws under a handler, and jumps out of tries.
use Rattle.std.proofs.Common.{◌≡◌, true, false, List, [], ◌∷◌, ◌++◌, Option, Some, None, Result, Ok, Err, IfOk, IfErr}
use Rattle.std.proofs.Common.{refl, sym, ap, ◌∙◌, subst, arith}
use Rattle.std.specs.Prelude.{is_some}
use Rattle.std.specs.Option.{option_to_list}
use Rattle.std.proofs.lemmas.List.{append-nil}
use Rattle.rc_names.specs.Numbers.{BlockId, EvaluationOrder}
use Rattle.rc_names.specs.declared.span.Span.{Span}
use Rattle.rc_hir.specs.Model.{Place, Fault, HirFunction}
use Rattle.rc_hir.specs.declared.fault.Fault.TheVariants as faults
use Rattle.rc_hir.specs.declared.fault.Rule.TheVariants as rules
use Rattle.rc_hir.specs.declared.terminal.GotoVariant.TheVariants as variants
use Rattle.rc_hir.specs.declared.terminal.Terminal.TheVariants as terminals
use Rattle.rc_runs.specs.declared.frames.Frame.{Frame}
use Rattle.rc_runs.specs.ListContext.{is_current}
use Rattle.rc_runs.specs.PlainTree.{Statements, Nil}
use Rattle.rc_runs.specs.Fallthrough.{is_next}
use Rattle.rc_runs.specs.Grammar.{and_rest, leaves_try, may_throw, may_throw_last, throws, value_statement}
use Rattle.rc_build.specs.declared.builder.Builder.{Builder}
use Rattle.rc_build.specs.declared.builder.Marks.{Marks}
use Rattle.rc_build.specs.declared.builder.Site.{Site}
use Rattle.rc_build.specs.TerminalForms.{is_leave, is_throw, names_handler}
use Rattle.rc_build.specs.BlockFacts.{HasTry}
use Rattle.rc_build.specs.RuleFacts.{RuleFact}
use Rattle.rc_build.specs.inside.CanBuild.{CanBuildTerminal, IsHandler}
use Rattle.rc_build.specs.inside.Setting.{Setting, setting_of}
use Rattle.rc_build.specs.inside.Task.{FromBlock, FromTerminal, Spells, left}
use Rattle.rc_build.specs.inside.Built.{BuildsTask, Refused}
use Rattle.rc_build.proofs.BuildsLemmas.{breaks_rule, is_built}
use Rattle.rc_build.proofs.BuiltLemmas.{marking_drop, marking_none}
use Rattle.rc_build.proofs.JumpLemmas.{builds_end}

-- there is no handler
pub no_handler : (handler : Option BlockId) → is_some handler ≡ false → handler ≡ None
no_handler None e = refl
no_handler (Some handler) e = let bad : ⊥ = cc in absurd bad

-- a handler is that of a try
tried : (hir : HirFunction) (handler : Option BlockId) → is_some handler ≡ true → IsHandler hir handler → HasTry hir
tried hir None e h = let bad : ⊥ = cc in absurd bad
tried hir (Some handler) e h = h

module _ {hir : HirFunction} {marks : Marks} {handler : Option BlockId} {frames : List Frame} {key : BlockId}
    {value : Place}
    {id : EvaluationOrder} {span : Option Span} where
  -- a block that throws under a handler
  pub throws_at : CanBuildTerminal hir marks handler frames key (terminals.Throw value id span) → is_some handler ≡ true
      → RuleFact hir rules.ThrowInTry key
  throws_at can some = (
    record { block = can.here.block; found = can.here.found; holds = ap is_throw can.here.holds },
    tried hir handler some can.handled,
  )

-- a throw under a handler is refused
pub throw_refused : {s : Setting} {value : Place} {id : EvaluationOrder} {span : Option Span} (used : List BlockId)
    → is_some s.context.handler ≡ true → Refused s.hir (Spells s (FromTerminal (terminals.Throw value id span))) used
throw_refused {s} used some all blocks (throws none) sound =
    let no : is_some s.context.handler ≡ false = ap is_some none in let bad : ⊥ = cc in bad
throw_refused used some all blocks (and_rest (value_statement i j n a u) r w) sound = elim n [ ]

module _ {target : BlockId} {id : EvaluationOrder} {span : Option Span} where
  -- a jump out of a try that leads elsewhere is refused
  leave_refused : {s : Setting} (used : List BlockId) → is_next s.context.next target ≡ false
      → Refused s.hir (Spells s (FromTerminal (terminals.Goto target variants.Try id span))) used
  leave_refused used elsewhere all blocks (leaves_try next) sound = let bad : ⊥ = cc in bad
  leave_refused used elsewhere all blocks (and_rest (value_statement i j n a u) r w) sound = elim n [ ]

  -- a jump out of a try is built without a statement, or it breaks its rule
  pub leave_builds : {old : Builder} {site : Site} {other : Option Span} (result : Result (Option BlockId) Fault)
      → CanBuildTerminal old.hir.now old.marks site.handler old.frames site.block
      (terminals.Goto target variants.Try id other)
      → IfOk result (λ goes_on. (goes_on ≡ None) × (is_next site.next target ≡ true))
      → IfErr result (λ fault. (fault ≡ faults.Malformed site.block rules.GotoTry) × (is_next site.next target ≡ false))
      → BuildsTask old old site (FromTerminal (terminals.Goto target variants.Try id span)) left result
  leave_builds {old} {site} (Ok goes_on) can ok err = subst (λ z. BuildsTask old old site
      (FromTerminal (terminals.Goto target variants.Try id span)) left (Ok z)) (sym ok.0)
      (builds_end {old = old} {site = site} (terminals.Goto target variants.Try id span) Nil can.marked
      (sym (append-nil old.out)) (leaves_try ok.1))
  leave_builds {old} {site} (Err fault) can ok err =
      breaks_rule site.block rules.GotoTry err.0 (leave_refused {s = setting_of old site} old.marks.used err.1)
      (record { block = can.here.block; found = can.here.found; holds = ap is_leave can.here.holds })

-- a handler that isn't the current one is named
named : (continuation : BlockId) (handler current : Option BlockId) (id : EvaluationOrder) (span : Option Span)
    → is_current handler current ≡ false → names_handler (terminals.MaybeThrow continuation handler id span) ≡ true
named continuation None current id span e = let bad : ⊥ = cc in absurd bad
named continuation (Some handler) current id span e = refl

module _ {continuation : BlockId} {handler : Option BlockId} {id : EvaluationOrder} {span : Option Span} where
  -- a block that may throw to another handler is refused
  pub other_handler : {s : Setting} (used : List BlockId) → is_current handler s.context.handler ≡ false
      → Refused s.hir (Spells s (FromTerminal (terminals.MaybeThrow continuation handler id span))) used
  other_handler used other all blocks (may_throw_last current next) sound = let bad : ⊥ = cc in bad
  other_handler used other all blocks (may_throw current apart d) sound = let bad : ⊥ = cc in bad
  other_handler used other all blocks (and_rest (value_statement i j n a u) r w) sound = elim n [ ]

  -- it breaks the rule
  pub handler_at : {hir : HirFunction} {marks : Marks} {current : Option BlockId} {frames : List Frame} {key : BlockId}
      → CanBuildTerminal hir marks current frames key (terminals.MaybeThrow continuation handler id span)
      → is_current handler current ≡ false → RuleFact hir rules.Handler key
  handler_at {current = current} can other = record {
    block = can.here.block;
    found = can.here.found;
    holds = ap names_handler can.here.holds ∙ named continuation handler current id span other;
  }

  -- a block that may throw, and whose continuation falling off reaches, ends its list
  pub throw_ends : {old : Builder} {site : Site} {other : EvaluationOrder} {around : Option Span}
      → CanBuildTerminal old.hir.now old.marks site.handler old.frames site.block
      (terminals.MaybeThrow continuation handler other around)
      → is_current handler site.handler ≡ true → is_next site.next continuation ≡ true
      → BuildsTask old old site (FromTerminal (terminals.MaybeThrow continuation handler id span)) left (Ok None)
  throw_ends {old} {site} can current next =
      builds_end {old = old} {site = site} (terminals.MaybeThrow continuation handler id span) Nil can.marked
      (sym (append-nil old.out)) (may_throw_last current next)

  -- after any other one the list goes on at its continuation
  pub throw_goes_on : {old : Builder} {site : Site} {other : EvaluationOrder} {around : Option Span}
      → CanBuildTerminal old.hir.now old.marks site.handler old.frames site.block
      (terminals.MaybeThrow continuation handler other around)
      → is_current handler site.handler ≡ true → is_next site.next continuation ≡ false
      → BuildsTask old old site (FromTerminal (terminals.MaybeThrow continuation handler id span)) left
      (Ok (Some continuation))
  throw_goes_on {old} {site} can current apart = is_built (Some continuation) (record {
    statements = Nil;
    newly = [];
    put = sym (append-nil old.out);
    marking = marking_drop old.hir.now (λ key. omega arith)
        (marking_none old.hir.now (continuation ∷ (option_to_list handler ++ [])) old.marks can.marked);
    onward = λ later used d. may_throw current apart d;
    only = only;
  }) refl
    where
      only : (all : Statements) (used : List BlockId)
          → Spells (setting_of old site) (FromTerminal (terminals.MaybeThrow continuation handler id span)) all used
          → (later : Statements) × (later_used : List BlockId)
          × Spells (setting_of old site) (FromBlock continuation) later later_used × (used ≡ [] ++ later_used)
      only all used (may_throw_last here next) = absurd (let bad : ⊥ = cc in bad)
      only all used (may_throw here later d) = (all, used, d, refl)
      only all used (and_rest (value_statement i j n a u) r w) = elim n [ ]
