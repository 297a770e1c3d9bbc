use Rattle.std.proofs.Common.{◌≡◌, ◌++◌, ◌∷◌, [], Some, true, false, refl, sym, ap, ◌∙◌, subst}
use Rattle.std.specs.Prelude.{not}
use Rattle.std.specs.Option.{option_to_list}
use Rattle.rc_hir.specs.declared.fault.Rule.TheVariants as rules
use Rattle.rc_runs.specs.Spelled.{scope_named}
use Rattle.rc_build.specs.declared.builder.Marks.{Marks}
use Rattle.rc_build.specs.inside.Marks.{is_fresh_scope, with_used}
use Rattle.rc_build.proofs.BitsLemmas.{bit_tells, bit_within}
use Rattle.rc_build.proofs.BuildsLemmas.{breaks_rule, is_built}
use Rattle.rc_build.proofs.TakenLemmas.{marked_push, marking_push, shared_scope, twice_used, unusable_scope}
use Rattle.rc_build.proofs.TakenLemmas.{unusable_unreachable, unusable_used}
use Rattle.rc_build.proofs.builder.Builder.mark_block.Goals as goal

pub returns-then-has_unreachable_successor : goal.returns-then-has_unreachable_successor
returns-then-has_unreachable_successor c = λ site.
    let builder = c.args.self.now in
    let block = c.args.found.block.now in
    let leads = c.has_unreachable_successor.ensures.yes c.if-has_unreachable_successor.true in
    breaks_rule c.args.key rules.Dead c.malformed.ensures
    (unusable_unreachable builder.hir.now [] c.args.key builder.marks block c.requires.can.ids.rows
    c.requires.can.found c.requires.can.ids.filled leads)
    (record { block = block; found = c.requires.can.found; holds = leads })

pub put_used-requires : goal.put_used-requires
put_used-requires c =
    let builder = c.args.self.now in
    bit_within builder.hir.now builder.marks.bits builder.marks.used c.args.key c.args.found.place
    c.requires.can.can.marked.told c.requires.placed

pub returns-then-not-branch : goal.returns-then-not-branch
returns-then-not-branch c = λ site.
    let builder = c.args.self.now in
    let used = bit_tells builder.hir.now builder.marks.bits builder.marks.used c.args.key c.args.found.place
    c.requires.can.can.marked.told c.requires.placed true
    (c.in_ok-put_used.ensures.added ∙ ap (λ b. Some (not b)) c.if-not-branch.true) in
    breaks_rule c.args.key rules.Twice c.malformed-then-not-branch.ensures
    (unusable_used builder.hir.now [] c.args.key builder.marks used)
    (twice_used builder.hir.now builder.marks [] c.args.key c.args.found.block.now c.requires.can.can
    c.requires.can.found used)

pub returns-then-not-branch-2 : goal.returns-then-not-branch-2
returns-then-not-branch-2 c = λ site.
    let hir = c.args.self.now.hir.now in
    let old = c.args.self.now.marks in
    let block = c.args.found.block.now in
    let can = c.requires.can in
    let fresh = bit_tells hir old.bits old.used c.args.key c.args.found.place can.can.marked.told c.requires.placed false
    (c.in_ok-put_used.ensures.added ∙ ap (λ b. Some (not b)) c.if-not-branch.false) in
    let stale = subst (λ (z : Marks). is_fresh_scope z.scopes (scope_named block.terminal) ≡ false)
    (c.in_ok-put_used.ensures.put c.if-not-branch.false)
    (subst (λ z. is_fresh_scope c.put_used.new.self.scopes z ≡ false) c.scope_named.ensures
    (sym c.in_ok-mark_scope.ensures.fresh ∙ c.if-not-branch-2.true)) in
    breaks_rule c.args.key rules.ScopeTwice c.malformed-then-not-branch-2.ensures
    (unusable_scope hir [] c.args.key old block can.ids.rows can.can.marked can.found can.ids.filled stale)
    (shared_scope hir old c.args.key block can.can.marked fresh can.found stale)

pub returns : goal.returns
returns c = λ site.
    let hir = c.args.self.now.hir.now in
    let old = c.args.self.now.marks in
    let key = c.args.key in
    let block = c.args.found.block.now in
    let place = c.args.found.place in
    let can = c.requires.can in
    let mid = c.put_used.new.self in
    let new : Marks = record { used = mid.used; bits = mid.bits; scopes = c.mark_scope.new.scopes } in
    let put : mid ≡ with_used key place old = c.in_ok-put_used.ensures.put c.if-not-branch.false in
    let fresh = bit_tells hir old.bits old.used key place can.can.marked.told c.requires.placed false
    (c.in_ok-put_used.ensures.added ∙ ap (λ b. Some (not b)) c.if-not-branch.false) in
    let used : new.used ≡ old.used ++ key ∷ [] = ap (λ (z : Marks). z.used) put in
    let added : c.in_ok-mark_scope.field-0 ≡ true = c.if-not-branch-2.false in
    let scopes : new.scopes ≡ old.scopes ++ option_to_list (scope_named block.terminal) =
    c.in_ok-mark_scope.ensures.scopes added ∙ ap (λ z. mid.scopes ++ option_to_list z) c.scope_named.ensures
    ∙ ap (λ (z : Marks). z.scopes ++ option_to_list (scope_named block.terminal)) put in
    let unshared = subst (λ (z : Marks). is_fresh_scope z.scopes (scope_named block.terminal) ≡ true) put
    (subst (λ z. is_fresh_scope mid.scopes z ≡ true) c.scope_named.ensures
    (sym c.in_ok-mark_scope.ensures.fresh ∙ added)) in
    let marked = marked_push hir old new key block can.ids.rows place can.can.marked fresh c.requires.placed can.found
    can.ids.filled (c.has_unreachable_successor.ensures.no c.if-has_unreachable_successor.false) unshared used
    (ap (λ (z : Marks). z.bits) put) scopes in
    is_built _ (record { marking = marking_push hir old new key block fresh can.found marked used; kept = refl }) refl
