use Rattle.std.proofs.Common.{[], ◌∷◌, refl, ap, arith, length}
use Rattle.std.proofs.lemmas.List.{length-append}
use Rattle.rc_build.specs.inside.ValueSteps.{value_at}
use Rattle.rc_build.proofs.BuildsLemmas.{any_site, boxed_built, passes_on, same_graph}
use Rattle.rc_build.proofs.ValueLoopLemmas.{back_done, back_further, back_refused, back_start, built_at, last_can}
use Rattle.rc_build.proofs.ValueLoopLemmas.{opened_last}
use Rattle.rc_build.proofs.ValueLoopLemmas.{popped_last, popped_none, rows_refused, short_can}
use Rattle.rc_build.proofs.builder.Builder.build_back.Goals as goal

-- the last block

pub build_last-requires : goal.build_last-requires
build_last-requires c =
    let at = c.requires.2 in
    last_can at.so_far at.can (any_site c.requires.1) at.ends

pub returns-in_err-built : goal.returns-in_err-built
returns-in_err-built c = λ old key at site.
    passes_on c.from_residual.ensures.1 (same_graph (at.so_far.setting site))
    (c.in_err-built.ensures site (value_at c.args.around c.args.is_test) refl) (rows_refused site at.so_far)

-- the rows before it

pub back-init : goal.back-init
back-init c = λ old key at.
    let site = any_site key in
    let context = value_at c.args.around c.args.is_test in
    back_start site (λ site. (c.in_ok-built.ensures site context refl).frames) at.so_far
    (c.in_ok-built.ensures site context refl).ok

pub put_behind-requires : goal.put_behind-requires
put_behind-requires c =
    let key = c.requires.1 in
    let at = c.requires.2 in
    short_can c.pop.new.self c.into_inner.result (c.back.invariant c.requires.0 key at)
    (opened_last c.back.pending c.pop.new.self c.into_inner.ensures
    (popped_last c.back.pending c.pop.new.self c.in-Some.is c.pop.ensures.last)) at.can (any_site key)

pub returns-in_err-built-2 : goal.returns-in_err-built-2
returns-in_err-built-2 c = λ old key at site.
    let s = c.back.invariant old key at in
    let last = opened_last c.back.pending c.pop.new.self c.into_inner.ensures
    (popped_last c.back.pending c.pop.new.self c.in-Some.is c.pop.ensures.last) in
    let same = same_graph (s.setting site) in
    passes_on c.from_residual-in_err-built-2.ensures.1 same
    (c.in_err-built-2.ensures site s.value s.end (built_at same s.is))
    (back_refused c.pop.new.self c.into_inner.result s last site)

pub back-preserved : goal.back-preserved
back-preserved c = λ old key at.
    let s = c.back.invariant old key at in
    let site = any_site key in
    let last = opened_last c.back.pending c.pop.new.self c.into_inner.ensures
    (popped_last c.back.pending c.pop.new.self c.in-Some.is c.pop.ensures.last) in
    let is = built_at (same_graph (s.setting site)) s.is in
    back_further site (λ site. (c.in_ok-built-2.ensures site s.value s.end is).frames) s last
    (c.in_ok-built-2.ensures site s.value s.end is).ok

pub back-smaller : goal.back-smaller
back-smaller c =
    let last = popped_last c.back.pending c.pop.new.self c.in-Some.is c.pop.ensures.last in
    omega (arith, ap length last, length-append c.pop.new.self (c.in-Some.row ∷ []))

pub returns : goal.returns
returns c = λ old key at site.
    let s = c.back.invariant old key at in
    boxed_built c.in_ok-new.ensures (back_done s (popped_none c.back.pending c.in_default.is c.pop.ensures.none))
    (s.setting site)
