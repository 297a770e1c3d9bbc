-- Statements that end a list: what they are, and why a break or a continue is refused.
use Rattle.std.proofs.Common.{◌≡◌, List, [], ◌++◌, Option, None, Ok, refl, sym, ap, subst}
use Rattle.rc_names.specs.Numbers.{BlockId, EvaluationOrder}
use Rattle.rc_names.specs.declared.span.Span.{Span}
use Rattle.rc_hir.specs.declared.terminal.GotoVariant.TheVariants as variants
use Rattle.rc_hir.specs.Model.{Terminal, HirFunction}
use Rattle.rc_hir.specs.declared.terminal.Terminal.TheVariants as terminals
use Rattle.rc_hir.specs.declared.fault.Rule.TheVariants.{ContinueTarget}
use Rattle.rc_tree.specs.Model.{ReactiveStatement}
use Rattle.rc_build.specs.declared.builder.Builder.{Builder}
use Rattle.rc_build.specs.declared.builder.Marks.{Marks}
use Rattle.rc_build.specs.declared.builder.Site.{Site}
use Rattle.rc_runs.specs.declared.frames.Frame.{Frame}
use Rattle.rc_runs.specs.Frames.{resolve_break, resolve_continue}
use Rattle.rc_runs.specs.PlainTree.{Statements}
use Rattle.rc_runs.specs.TreeOf.{statements_of}
use Rattle.rc_runs.specs.SimpleStatements.{break_statements, continue_statements}
use Rattle.rc_runs.specs.Grammar.{value_statement, SpellsTerminal, and_rest, breaks, continues}
use Rattle.rc_build.specs.TerminalForms.{Jumps, goto_break, is_continue}
use Rattle.rc_build.specs.BlockFacts.{BlockIs}
use Rattle.rc_build.specs.RuleFacts.{IsLostJump, RuleFact}
use Rattle.rc_build.specs.inside.CanBuild.{AreMarked, CanBreak, CanBuildTerminal}
use Rattle.rc_build.specs.inside.Setting.{Setting, setting_of}
use Rattle.rc_build.specs.inside.Task.{FromTerminal, Spells, left, progress_of}
use Rattle.rc_build.specs.inside.Built.{BuildsTask, BuiltPrefix, PutsBreak, Refused}
use Rattle.rc_build.proofs.BuildsLemmas.{is_built}
use Rattle.rc_build.proofs.BuiltLemmas.{leaf_prefix}

-- a terminal whose statements end its list is built
pub builds_end : {old : Builder} {site : Site} {out : List ReactiveStatement} (terminal : Terminal)
    (statements : Statements) → AreMarked old.hir.now old.marks
    → out ≡ old.out ++ statements_of statements
    → SpellsTerminal old.hir.now old.env.now terminal (setting_of old site).context statements []
    → BuildsTask old (record old { out = out }) site (FromTerminal terminal) left (Ok None)
builds_end {old} {site} terminal statements marked put spelled =
    is_built None (leaf_prefix {s = setting_of old site} terminal statements old.marks marked put spelled) refl

module _ {target : BlockId} {id : EvaluationOrder} {span : Option Span} where
  -- a break is built where its statements are put
  pub break_built : {old new : Builder} (site : Site) → AreMarked old.hir.now old.marks → PutsBreak old new target id
      → BuiltPrefix (setting_of old site) (FromTerminal (terminals.Goto target variants.Break id span)) (left None)
      (progress_of old) (progress_of new)
  break_built {old} {new} site marked b = subst (λ (z : Marks). BuiltPrefix (setting_of old site)
      (FromTerminal (terminals.Goto target variants.Break id span)) (left None) (progress_of old)
      (record { marks = z; out = new.out })) (sym b.kept)
      (leaf_prefix {s = setting_of old site} (terminals.Goto target variants.Break id span) b.statements old.marks marked
      b.put (breaks b.asked))

  -- a break that is refused
  pub break_refused : {s : Setting} (used : List BlockId)
      → break_statements (resolve_break s.context.frames target) target id ≡ None
      → Refused s.hir (Spells s (FromTerminal (terminals.Goto target variants.Break id span))) used
  break_refused used none all blocks (breaks some) sound = let bad : ⊥ = cc in bad
  break_refused used none all blocks (and_rest (value_statement i j n a u) r w) sound = elim n [ ]

  -- a continue that is refused
  pub continue_refused : {s : Setting} (used : List BlockId)
      → continue_statements (resolve_continue s.context.frames target) id ≡ None
      → Refused s.hir (Spells s (FromTerminal (terminals.Goto target variants.Continue id span))) used
  continue_refused used none all blocks (continues some) sound = let bad : ⊥ = cc in bad
  continue_refused used none all blocks (and_rest (value_statement i j n a u) r w) sound = elim n [ ]

  -- a block that ends in a break can break
  pub goto_can : {hir : HirFunction} {marks : Marks} {handler : Option BlockId} {frames : List Frame} {key : BlockId}
      → CanBuildTerminal hir marks handler frames key (terminals.Goto target variants.Break id span)
      → CanBreak hir marks frames key (terminals.Goto target variants.Break id span) target
  goto_can {handler = handler} can = record { handler = handler; can = can; jumps = goto_break; lost = tt }

  -- a block that ends in a continue
  pub continue_at : {hir : HirFunction} {marks : Marks} {handler : Option BlockId} {frames : List Frame} {key : BlockId}
      → CanBuildTerminal hir marks handler frames key (terminals.Goto target variants.Continue id span)
      → RuleFact hir ContinueTarget key
  continue_at can = record {
    block = can.here.block;
    found = can.here.found;
    holds = ap is_continue can.here.holds;
  }

module _ {hir : HirFunction} {marks : Marks} {frames : List Frame} {key target : BlockId} {terminal : Terminal}
    (can : CanBreak hir marks frames key terminal target) where
  -- a block that breaks, and what its target is
  pub jump_at : {P : BlockId → Type 0} → P target
      → BlockIs hir key (λ block. (x : BlockId) × Jumps block.terminal x × P x)
  jump_at p = record {
    block = can.can.here.block;
    found = can.can.here.found;
    holds = (target, subst (λ z. Jumps z target) (sym can.can.here.holds) can.jumps, p);
  }

  -- a block that breaks to no frame's block
  pub lost_at : BlockIs hir key (λ block. IsLostJump hir key block.terminal)
  lost_at = record {
    block = can.can.here.block;
    found = can.can.here.found;
    holds = subst (IsLostJump hir key) (sym can.can.here.holds) can.lost;
  }
