mod Ifs
mod Loops
mod Switches
mod Tries
use Rattle.std.proofs.Common.{[], refl, sym, ap, ◌∙◌, subst, arith, rules}
use Rattle.std.proofs.lemmas.List.{append-nil}
use Rattle.std.proofs.lemmas.Result.{IfOk-weaker}
use Rattle.rc_hir.specs.declared.terminal.Terminal.TheVariants as terminals
use Rattle.rc_runs.specs.PlainTree.{Nil}
use Rattle.rc_runs.specs.Grammar.{SpellsTerminal, unreachable}
use Rattle.rc_build.specs.declared.builder.Site.{Site}
use Rattle.rc_build.specs.inside.CanBuild.{CanBuildList, CanBuildTerminal}
use Rattle.rc_build.specs.inside.Depths.{frames_inside}
use Rattle.rc_build.specs.inside.Enclosures.{statement_around}
use Rattle.rc_build.specs.inside.Setting.{Setting, part_setting, setting_of}
use Rattle.rc_build.specs.inside.Task.{progress_of, FromBlock, Spells}
use Rattle.rc_build.specs.inside.Built.{Refused, BuiltList}
use Rattle.rc_build.proofs.BuildsLemmas.{builds_terminal, builds_then, is_built, block_at, passes_on, same_graph}
use Rattle.rc_build.proofs.BuiltLemmas.{whole_list}
use Rattle.rc_build.proofs.EnclosureLemmas.{enclosure_built, enclosure_can, enclosure_refused}
use Rattle.rc_build.proofs.ListLemmas.{fewer_left, list_done, list_further, list_next, list_refused, list_start}
use Rattle.rc_build.proofs.ListLemmas.{same_blocks, used_longer}
use Rattle.rc_build.proofs.JumpLemmas.{builds_end}
use Rattle.rc_build.proofs.StatementLemmas.{setting_left, at_part_site}
use Rattle.rc_build.proofs.builder.Builder.+builder.Goals as goal
use Rattle.rc_build.proofs.builder.Builder.+builder.Answers.Loops as loops
use Rattle.rc_build.proofs.builder.Builder.+builder.Answers.Switches as switches
use Rattle.rc_build.proofs.builder.Builder.+builder.Answers.Ifs as ifs
use Rattle.rc_build.proofs.builder.Builder.+builder.Answers.Tries as tries

-- the loop over the blocks of a list

pub build_list-list-init : goal.build_list-list-init
build_list-list-init t c = list_start c.args.self.now c.args.site c.requires.marked

pub build_list-build_block-requires : goal.build_list-build_block-requires
build_list-build_block-requires t c = (
  omega (
    arith,
    same_blocks c.args.self.now c.list.self c.args.site c.list.invariant.setting,
    used_longer c.list.invariant.built.marking,
  ),
  subst (λ (z : Site). CanBuildList c.list.self.hir.now c.list.self.marks z.handler c.list.self.frames z.block)
      (sym c.at.ensures) (list_next c.in-Some.is c.list.invariant c.requires),
)

pub build_list-list-preserved : goal.build_list-list-preserved
build_list-list-preserved t c =
    let step = block_at {site = c.args.site} c.in-Some.block c.at.ensures c.in_ok-at.ensures.builds in
    list_further c.in-Some.is c.list.invariant step.frames step.ok

pub build_list-list-smaller : goal.build_list-list-smaller
build_list-list-smaller t c =
    let step = block_at {site = c.args.site} c.in-Some.block c.at.ensures c.in_ok-at.ensures.builds in
    omega (arith, fewer_left step step.ok.marking.marked c.in_ok-at.ensures.more)

pub build_list-returns-in_err-at : goal.build_list-returns-in_err-at
build_list-returns-in_err-at t c =
    passes_on c.from_residual.ensures.1 (same_graph c.list.invariant.setting)
    (block_at {site = c.args.site} c.in-Some.block c.at.ensures c.in_err-at.ensures.builds)
    (list_refused c.in-Some.is c.list.invariant)

pub build_list-returns : goal.build_list-returns
build_list-returns t c = record {
  ok = list_done c.in_default.is c.list.invariant;
  refused = search rules;
  facts = tt;
  frames = c.list.invariant.setting;
}

-- a block

pub build_block-build_terminal-requires : goal.build_block-build_terminal-requires
build_block-build_terminal-requires t c =
    let taken = c.in_ok-terminal.ensures in
    let mid = c.take_block.new.self in (
      omega (arith, fewer_left taken taken.ok.ready.marked taken.ok.more),
      subst (λ (z : Setting). CanBuildTerminal z.hir mid.marks c.args.site.handler z.context.frames c.args.site.block
          c.in_ok-terminal.terminal.now) (sym taken.frames) taken.ok.ready,
    )

pub build_block-returns-in_err-terminal : goal.build_block-returns-in_err-terminal
build_block-returns-in_err-terminal t c = record {
  builds = passes_on c.from_residual.ensures.1 refl c.in_err-terminal.ensures (λ none. none);
  more = search rules;
}

pub build_block-returns-clause-builds : goal.build_block-returns-clause-builds
build_block-returns-clause-builds t c =
    builds_then c.in_ok-terminal.ensures.frames c.in_ok-terminal.ensures.ok.rows c.build_terminal.ensures

pub build_block-returns-clause-more : goal.build_block-returns-clause-more
build_block-returns-clause-more t c =
    IfOk-weaker c.build_terminal.result _ _ (λ rest built.
    omega (arith, c.in_ok-terminal.ensures.ok.more, used_longer built.marking)) c.build_terminal.ensures.ok

-- a terminal

pub build_terminal-returns-in-Return : goal.build_terminal-returns-in-Return
build_terminal-returns-in-Return t c =
    builds_terminal (terminals.Return c.in-Return.value c.in-Return.id) _ c.in-Return.is c.build_return.ensures

pub build_terminal-returns-in-Switch : goal.build_terminal-returns-in-Switch
build_terminal-returns-in-Switch t c =
    builds_terminal (terminals.Switch c.in-Switch.test c.in-Switch.cases c.in-Switch.fallthrough c.in-Switch.id) _
    c.in-Switch.is c.build_switch.ensures

pub build_terminal-returns-in-Throw : goal.build_terminal-returns-in-Throw
build_terminal-returns-in-Throw t c =
    builds_terminal (terminals.Throw c.in-Throw.value c.in-Throw.id) _ c.in-Throw.is c.build_throw.ensures

pub build_terminal-returns-in-Branch : goal.build_terminal-returns-in-Branch
build_terminal-returns-in-Branch t c =
    builds_terminal (terminals.Branch c.in-Branch.test c.in-Branch.consequent c.in-Branch.alternate c.in-Branch.id) _
    c.in-Branch.is c.build_branch.ensures

pub build_terminal-returns-in-Goto : goal.build_terminal-returns-in-Goto
build_terminal-returns-in-Goto t c =
    builds_terminal (terminals.Goto c.in-Goto.block c.in-Goto.variant c.in-Goto.id) _ c.in-Goto.is c.build_goto.ensures

pub build_terminal-returns-in-If : goal.build_terminal-returns-in-If
build_terminal-returns-in-If t c =
    builds_terminal (terminals.If c.in-If.test c.in-If.consequent c.in-If.alternate c.in-If.fallthrough c.in-If.id) _
    c.in-If.is c.build_if.ensures

pub build_terminal-returns-in-Label : goal.build_terminal-returns-in-Label
build_terminal-returns-in-Label t c =
    builds_terminal (terminals.Label c.in-Label.block c.in-Label.fallthrough c.in-Label.id) _ c.in-Label.is
    c.build_enclosure.ensures

pub build_terminal-returns-in-Scope : goal.build_terminal-returns-in-Scope
build_terminal-returns-in-Scope t c =
    builds_terminal (terminals.Scope c.in-Scope.fallthrough c.in-Scope.block c.in-Scope.scope c.in-Scope.id) _
    c.in-Scope.is c.build_enclosure-in-Scope.ensures

pub build_terminal-returns-in-PrunedScope : goal.build_terminal-returns-in-PrunedScope
build_terminal-returns-in-PrunedScope t c = builds_terminal
    (terminals.PrunedScope c.in-PrunedScope.fallthrough c.in-PrunedScope.block c.in-PrunedScope.scope
    c.in-PrunedScope.id)
    _ c.in-PrunedScope.is c.build_enclosure-in-PrunedScope.ensures

pub build_terminal-returns-in-Try : goal.build_terminal-returns-in-Try
build_terminal-returns-in-Try t c = builds_terminal
    (terminals.Try c.in-Try.block c.in-Try.handler_binding c.in-Try.handler c.in-Try.fallthrough c.in-Try.id) _
    c.in-Try.is c.build_try.ensures

pub build_terminal-returns-in-MaybeThrow : goal.build_terminal-returns-in-MaybeThrow
build_terminal-returns-in-MaybeThrow t c =
    builds_terminal (terminals.MaybeThrow c.in-MaybeThrow.continuation c.in-MaybeThrow.handler _) _
    c.in-MaybeThrow.is (c.build_maybe_throw.ensures _)

pub build_terminal-returns-in-Unreachable : goal.build_terminal-returns-in-Unreachable
build_terminal-returns-in-Unreachable t c =
    let builder = c.args.self.now in
    builds_end c.args.terminal.now Nil c.requires.marked (sym (append-nil builder.out))
    (subst (λ k. SpellsTerminal builder.hir.now builder.env.now k (setting_of builder c.args.site).context Nil [])
    (sym c.in-Unreachable.is) unreachable)

-- a part

pub build_part-build_apart-requires : goal.build_part-build_apart-requires
build_part-build_apart-requires t c =
    let builder = c.args.self.now in (
      omega arith,
      subst (λ (z : Site). CanBuildList builder.hir.now builder.marks z.handler c.enter.new.self z.block)
          (sym c.inside.ensures)
          (subst (λ z. CanBuildList builder.hir.now builder.marks c.args.site.handler z c.args.part)
          (sym c.in_ok-enter.ensures.ok)
          c.requires),
    )

pub build_part-returns-in_err-list : goal.build_part-returns-in_err-list
build_part-returns-in_err-list t c =
    let old = c.args.self.now in
    passes_on c.from_residual-in_err-list.ensures.1 refl c.in_err-list.ensures
    (at_part_site (λ z k. Refused z.hir (Spells z (FromBlock k)) old.marks.used)
    (record old { frames = c.enter.new.self })
    old.frames c.args.opened c.args.frame c.args.part c.args.site c.inside.result c.inside.ensures
    c.in_ok-enter.ensures.ok)

pub build_part-returns : goal.build_part-returns
build_part-returns t c =
    let old = c.args.self.now in
    let started = record old { frames = c.enter.new.self } in
    let list = c.in_ok-list.ensures in
    is_built c.in_ok-list.list
    (at_part_site (λ z k. BuiltList z k c.in_ok-list.list (progress_of started) (progress_of c.build_apart.new.self))
    started old.frames c.args.opened c.args.frame c.args.part c.args.site c.inside.result c.inside.ensures
    c.in_ok-enter.ensures.ok list.ok)
    (setting_left old started c.build_apart.new.self c.args.site c.inside.result c.leave.new.self list.frames refl refl
    (c.leave.ensures c.args.frame old.frames (ap (λ (z : Setting). z.context.frames) list.frames
    ∙ c.in_ok-enter.ensures.ok)))

-- a list apart from the statements in front of it

pub build_apart-build_list-requires : goal.build_apart-build_list-requires
build_apart-build_list-requires t c = (omega arith, c.requires)

pub build_apart-returns-in-Err : goal.build_apart-returns-in-Err
build_apart-returns-in-Err t c = passes_on refl refl c.in-Err.ensures (λ none. none)

pub build_apart-returns-in-Ok : goal.build_apart-returns-in-Ok
build_apart-returns-in-Ok t c =
    let list = c.in-Ok.ensures in
    is_built c.replace.result
    (whole_list list.ok c.take-outer.ensures.left c.replace.ensures.value
    (c.replace.ensures.after ∙ c.take-outer.ensures.list)) list.frames

-- a statement with one part

pub build_enclosure-build_part-requires : goal.build_enclosure-build_part-requires
build_enclosure-build_part-requires t c =
    let old = c.args.self.now in
    let opened = c.open_around-opened.result in (
      omega arith,
      subst (λ z. CanBuildList old.hir.now old.marks c.args.site.handler (frames_inside opened z old.frames)
          c.args.part) (sym c.frame.ensures)
          (enclosure_can opened c.args.enclosure c.args.part c.args.fallthrough c.args.id c.requires.0 c.requires.1),
    )

pub build_enclosure-returns-in_err-body : goal.build_enclosure-returns-in_err-body
build_enclosure-returns-in_err-body t c = λ span.
    let old = c.args.self.now in
    passes_on c.from_residual.ensures.1 refl c.in_err-body.ensures
    (λ none. enclosure_refused c.args.enclosure c.args.part c.args.fallthrough c.args.id span old.marks.used
    c.open_around-opened.ensures
    (subst (λ z. Refused old.hir.now (Spells (part_setting c.open_around-opened.result z (setting_of old c.args.site))
    (FromBlock c.args.part)) old.marks.used) c.frame.ensures none))

pub build_enclosure-returns : goal.build_enclosure-returns
build_enclosure-returns t c = λ span.
    let old = c.args.self.now in
    let body = c.in_ok-body.ensures in
    is_built c.open_around-opened.result
    (enclosure_built c.args.enclosure c.args.part c.args.fallthrough c.args.id span c.open_around-opened.ensures
    (subst (λ z. BuiltList (part_setting c.open_around-opened.result z (setting_of old c.args.site)) c.args.part
    c.in_ok-body.body (progress_of old) (progress_of c.build_part.new.self)) c.frame.ensures body.ok)
    (ap (statement_around c.args.enclosure c.in_ok-body.body c.args.id) c.label_at.ensures) c.in_ok-put.ensures)
    body.frames

-- the answers of a loop's functions

pub build_loop-returns-in_err-values : goal.build_loop-returns-in_err-values
build_loop-returns-in_err-values = loops.build_loop-returns-in_err-values

pub build_loop-build_part-requires : goal.build_loop-build_part-requires
build_loop-build_part-requires = loops.build_loop-build_part-requires

pub build_loop-returns-in-Err : goal.build_loop-returns-in-Err
build_loop-returns-in-Err = loops.build_loop-returns-in-Err

pub build_loop-put_loop-requires : goal.build_loop-put_loop-requires
build_loop-put_loop-requires = loops.build_loop-put_loop-requires

pub build_loop-returns-in_ok-put_loop-in-Ok : goal.build_loop-returns-in_ok-put_loop-in-Ok
build_loop-returns-in_ok-put_loop-in-Ok = loops.build_loop-returns-in_ok-put_loop-in-Ok

-- the answers of a switch's functions

pub build_switch-returns-then-has_odd_cases : goal.build_switch-returns-then-has_odd_cases
build_switch-returns-then-has_odd_cases = switches.build_switch-returns-then-has_odd_cases

pub build_switch-returns-then-leaves_elsewhere : goal.build_switch-returns-then-leaves_elsewhere
build_switch-returns-then-leaves_elsewhere = switches.build_switch-returns-then-leaves_elsewhere

pub build_switch-build_cases_inside-requires : goal.build_switch-build_cases_inside-requires
build_switch-build_cases_inside-requires = switches.build_switch-build_cases_inside-requires

pub build_switch-returns : goal.build_switch-returns
build_switch-returns = switches.build_switch-returns

pub build_switch-returns-in-Ok : goal.build_switch-returns-in-Ok
build_switch-returns-in-Ok = switches.build_switch-returns-in-Ok

pub build_cases_inside-build_cases-requires : goal.build_cases_inside-build_cases-requires
build_cases_inside-build_cases-requires = switches.build_cases_inside-build_cases-requires

pub build_cases_inside-returns-in_err-build_cases : goal.build_cases_inside-returns-in_err-build_cases
build_cases_inside-returns-in_err-build_cases = switches.build_cases_inside-returns-in_err-build_cases

pub build_cases_inside-returns : goal.build_cases_inside-returns
build_cases_inside-returns = switches.build_cases_inside-returns

pub build_cases-cases-init : goal.build_cases-cases-init
build_cases-cases-init = switches.build_cases-cases-init

pub build_cases-build_apart-requires : goal.build_cases-build_apart-requires
build_cases-build_apart-requires = switches.build_cases-build_apart-requires

pub build_cases-returns-in_err-statements : goal.build_cases-returns-in_err-statements
build_cases-returns-in_err-statements = switches.build_cases-returns-in_err-statements

pub build_cases-cases-preserved : goal.build_cases-cases-preserved
build_cases-cases-preserved = switches.build_cases-cases-preserved

pub build_cases-cases-smaller : goal.build_cases-cases-smaller
build_cases-cases-smaller = switches.build_cases-cases-smaller

pub build_cases-returns : goal.build_cases-returns
build_cases-returns = switches.build_cases-returns

-- the answers of the functions of an if and of a branch

pub build_branch-returns-then-is_jump_target : goal.build_branch-returns-then-is_jump_target
build_branch-returns-then-is_jump_target = ifs.build_branch-returns-then-is_jump_target

pub build_branch-build_consequent-requires : goal.build_branch-build_consequent-requires
build_branch-build_consequent-requires = ifs.build_branch-build_consequent-requires

pub build_branch-returns-in_err-part : goal.build_branch-returns-in_err-part
build_branch-returns-in_err-part = ifs.build_branch-returns-in_err-part

pub build_branch-build_apart-requires : goal.build_branch-build_apart-requires
build_branch-build_apart-requires = ifs.build_branch-build_apart-requires

pub build_branch-returns-in_err-statements : goal.build_branch-returns-in_err-statements
build_branch-returns-in_err-statements = ifs.build_branch-returns-in_err-statements

pub build_branch-returns : goal.build_branch-returns
build_branch-returns = ifs.build_branch-returns

pub build_consequent-put_break-requires : goal.build_consequent-put_break-requires
build_consequent-put_break-requires = ifs.build_consequent-put_break-requires

pub build_consequent-returns-in_err-put_break : goal.build_consequent-returns-in_err-put_break
build_consequent-returns-in_err-put_break = ifs.build_consequent-returns-in_err-put_break

pub build_consequent-returns-then-is_jump_target : goal.build_consequent-returns-then-is_jump_target
build_consequent-returns-then-is_jump_target = ifs.build_consequent-returns-then-is_jump_target

pub build_consequent-build_apart-requires : goal.build_consequent-build_apart-requires
build_consequent-build_apart-requires = ifs.build_consequent-build_apart-requires

pub build_consequent-returns : goal.build_consequent-returns
build_consequent-returns = ifs.build_consequent-returns

pub build_if-returns-then-falls_elsewhere : goal.build_if-returns-then-falls_elsewhere
build_if-returns-then-falls_elsewhere = ifs.build_if-returns-then-falls_elsewhere

pub build_if-build_part-requires : goal.build_if-build_part-requires
build_if-build_part-requires = ifs.build_if-build_part-requires

pub build_if-returns-in_err-part : goal.build_if-returns-in_err-part
build_if-returns-in_err-part = ifs.build_if-returns-in_err-part

pub build_if-build_alternate-requires : goal.build_if-build_alternate-requires
build_if-build_alternate-requires = ifs.build_if-build_alternate-requires

pub build_if-returns-in-Err : goal.build_if-returns-in-Err
build_if-returns-in-Err = ifs.build_if-returns-in-Err

pub build_if-returns-in_ok-put_if-in-Ok : goal.build_if-returns-in_ok-put_if-in-Ok
build_if-returns-in_ok-put_if-in-Ok = ifs.build_if-returns-in_ok-put_if-in-Ok

pub build_alternate-returns-then-eq : goal.build_alternate-returns-then-eq
build_alternate-returns-then-eq = ifs.build_alternate-returns-then-eq

pub build_alternate-returns-in_err-statements : goal.build_alternate-returns-in_err-statements
build_alternate-returns-in_err-statements = ifs.build_alternate-returns-in_err-statements

pub build_alternate-returns : goal.build_alternate-returns
build_alternate-returns = ifs.build_alternate-returns

-- the answers of a try's function

pub build_try-build_part-requires : goal.build_try-build_part-requires
build_try-build_part-requires = tries.build_try-build_part-requires

pub build_try-returns-in_err-block : goal.build_try-returns-in_err-block
build_try-returns-in_err-block = tries.build_try-returns-in_err-block

pub build_try-build_part-requires-2 : goal.build_try-build_part-requires-2
build_try-build_part-requires-2 = tries.build_try-build_part-requires-2

pub build_try-returns-in-Err : goal.build_try-returns-in-Err
build_try-returns-in-Err = tries.build_try-returns-in-Err

pub build_try-returns-in_ok-put_try-in-Ok : goal.build_try-returns-in_ok-put_try-in-Ok
build_try-returns-in_ok-put_try-in-Ok = tries.build_try-returns-in_ok-put_try-in-Ok
