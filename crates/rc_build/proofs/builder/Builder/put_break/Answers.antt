use Rattle.std.proofs.Common.{true, false, refl, sym, ap}
use Rattle.std.proofs.lemmas.List.{append-nil}
use Rattle.rc_hir.specs.declared.fault.Rule.TheVariants as rules
use Rattle.rc_runs.specs.PlainTree.{Nil, Break}
use Rattle.rc_runs.specs.SimpleStatements.{break_statements, unlabeled}
use Rattle.rc_build.specs.inside.CanBuild.{IsUsedApart}
use Rattle.rc_build.proofs.BuildsLemmas.{breaks_rule, is_built}
use Rattle.rc_build.proofs.JumpLemmas.{jump_at, lost_at}
use Rattle.rc_build.proofs.OwnersLemmas.{leaves_scope, leaves_case}
use Rattle.rc_build.proofs.builder.Builder.put_break.Goals as goal

pub returns-in-NoFrame : goal.returns-in-NoFrame
returns-in-NoFrame c =
    breaks_rule c.args.site.block rules.BreakTarget c.malformed.ensures
    (ap (λ z. break_statements z c.args.target c.args.id) (sym c.in-NoFrame.ensures)) (lost_at c.requires.1)

pub returns-in-LeavesScope : goal.returns-in-LeavesScope
returns-in-LeavesScope c =
    let builder = c.args.self.now in
    let at = c.requires.1 in
    breaks_rule c.args.site.block rules.ScopeBreak c.malformed-in-LeavesScope.ensures
    (ap (λ z. break_statements z c.args.target c.args.id) (sym c.in-LeavesScope.ensures))
    (jump_at at (leaves_scope builder.hir.now (IsUsedApart builder.marks c.args.site.block) true
    false builder.frames c.args.target at.can.owned (sym c.in-LeavesScope.ensures)))

pub returns-in-LeavesCase : goal.returns-in-LeavesCase
returns-in-LeavesCase c =
    let builder = c.args.self.now in
    let at = c.requires.1 in
    breaks_rule c.args.site.block rules.CaseLabel c.malformed-in-LeavesCase.ensures
    (ap (λ z. break_statements z c.args.target c.args.id) (sym c.in-LeavesCase.ensures))
    (jump_at at (leaves_case builder.hir.now (IsUsedApart builder.marks c.args.site.block) true
    false builder.frames c.args.target at.can.owned (sym c.in-LeavesCase.ensures)))

pub returns-in-FallsOff : goal.returns-in-FallsOff
returns-in-FallsOff c = is_built tt (record {
  statements = Nil;
  asked = ap (λ z. break_statements z c.args.target c.args.id) (sym c.in-FallsOff.ensures);
  put = sym (append-nil c.args.self.now.out);
  kept = refl;
}) refl

pub returns-in_ok-put_terminal-in-Breaks : goal.returns-in_ok-put_terminal-in-Breaks
returns-in_ok-put_terminal-in-Breaks c = is_built tt (record {
  statements = unlabeled (Break c.args.target c.in-Breaks.target_kind c.args.id);
  asked = ap (λ z. break_statements z c.args.target c.args.id) (sym c.in-Breaks.ensures);
  put = c.in_ok-put_terminal-in-Breaks.ensures;
  kept = refl;
}) refl
