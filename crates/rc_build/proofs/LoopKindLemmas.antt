-- What the five kinds of loops have in common: their fallthrough, where their turns begin, their values and blocks.
use Rattle.std.proofs.Common.{◌≡◌, ◌≤◌, true, List, [], ◌∷◌, ◌++◌, Option, Some, None, refl, sym, ap, subst, arith}
use Rattle.std.specs.Prelude.{IsSome}
use Rattle.std.specs.Option.{option_to_list}
use Rattle.std.proofs.lemmas.Bool.{or_left, or_right}
use Rattle.rc_names.specs.Numbers.{BlockId, is_among, same_id, times}
use Rattle.rc_names.proofs.NumbersLemmas.{ids_equivalence}
use Rattle.rc_runs.specs.LoopParts.{first_of}
use Rattle.rc_hir.specs.Model.{Terminal}
use Rattle.rc_hir.specs.declared.terminal.Terminal.TheVariants as terminals
use Rattle.rc_build.specs.declared.loops.LoopKind.{LoopKind}
use Rattle.rc_build.specs.declared.loops.LoopKind.TheVariants as kinds
use Rattle.rc_build.specs.declared.loops.LoopTerminal.{LoopTerminal}
use Rattle.rc_build.specs.References.{Arm, InValue, Test, ValueFallthrough, blocks_as, fallthrough_of, is_while}
use Rattle.rc_build.specs.References.{referenced_blocks, turn_block}
use Rattle.rc_build.specs.References.{value_references}
use Rattle.rc_build.specs.inside.LoopKinds.{before_of, init_of, is_while_kind, loop_of, loop_with, terminal_of}
use Rattle.rc_build.specs.inside.LoopKinds.{terminal_with}
use Rattle.rc_build.proofs.MarksLemmas.{among_front}

-- a block is the first of these, or one of those after it
pub among_first : (key : BlockId) (later : List BlockId) → is_among (key ∷ later) key ≡ true
among_first key later = or_left (same_id key key) (is_among later key) (ids_equivalence.refl key)

pub among_next : (first key : BlockId) (later : List BlockId) → is_among later key ≡ true
    → is_among (first ∷ later) key ≡ true
among_next first key later h = or_right (same_id key first) (is_among later key) h

-- a loop that is found
pub loop_there : {found : Option LoopTerminal} → IsSome found → (t : LoopTerminal) × (found ≡ Some t)
loop_there {found = Some t} there = (t, refl)
loop_there {found = None} there = let bad : ⊥ = cc in absurd bad

-- a loop is found once
pub one_loop : {found : Option LoopTerminal} {t other : LoopTerminal} → found ≡ Some t → found ≡ Some other → t ≡ other
one_loop is also = cc (is, also)

-- a terminal that is a loop
pub loop_same : (terminal : Terminal) (found : LoopTerminal) → loop_of terminal ≡ Some found
    → terminal ≡ terminal_of found
loop_same (terminals.While test loop_block fallthrough id span) found e =
    let same : loop_with kinds.While test loop_block fallthrough id span ≡ found = cc in ap terminal_of same
loop_same (terminals.DoWhile loop_block test fallthrough id span) found e =
    let same : loop_with kinds.DoWhile test loop_block fallthrough id span ≡ found = cc in ap terminal_of same
loop_same (terminals.For init test update loop_block fallthrough id span) found e =
    let same : loop_with (kinds.For init update) test loop_block fallthrough id span ≡ found = cc in ap terminal_of same
loop_same (terminals.ForOf init test loop_block fallthrough id span) found e =
    let same : loop_with (kinds.ForOf init) test loop_block fallthrough id span ≡ found = cc in ap terminal_of same
loop_same (terminals.ForIn init loop_block fallthrough id span) found e =
    let same : loop_with kinds.ForIn init loop_block fallthrough id span ≡ found = cc in ap terminal_of same
loop_same terminal found e = let bad : ⊥ = cc in absurd bad

module _ (t : LoopTerminal) where
  pub falls_with : (kind : LoopKind) → fallthrough_of (terminal_with kind t) ≡ Some t.fallthrough
  falls_with kinds.While = refl
  falls_with kinds.DoWhile = refl
  falls_with (kinds.For init update) = refl
  falls_with (kinds.ForOf init) = refl
  falls_with kinds.ForIn = refl

  pub starts_with : (kind : LoopKind) → turn_block (terminal_with kind t) ≡ Some (first_of (before_of kind) t.test)
  starts_with kinds.While = refl
  starts_with kinds.DoWhile = refl
  starts_with (kinds.For init update) = refl
  starts_with (kinds.ForOf init) = refl
  starts_with kinds.ForIn = refl

  pub while_with : (kind : LoopKind) → is_while_kind kind ≡ true → is_while (terminal_with kind t) ≡ true
  while_with kinds.While e = refl
  while_with kinds.DoWhile e = e
  while_with (kinds.For init update) e = e
  while_with (kinds.ForOf init) e = e
  while_with kinds.ForIn e = e

  -- a loop refers to its values by fields for values
  pub valued_with : (kind : LoopKind) (key : BlockId) → is_among (blocks_as Test (terminal_with kind t)) key ≡ true
      → is_among (value_references (terminal_with kind t)) key ≡ true
  valued_with kind key h =
      among_front (blocks_as Test terminal) (blocks_as InValue terminal ++ (blocks_as Arm terminal
      ++ blocks_as ValueFallthrough terminal)) key h
    where
      terminal : Terminal
      terminal = terminal_with kind t

  pub tests_test : (kind : LoopKind) → is_among (blocks_as Test (terminal_with kind t)) t.test ≡ true
  tests_test kinds.While = among_first t.test []
  tests_test kinds.DoWhile = among_first t.test []
  tests_test (kinds.For init update) =
      let later = option_to_list update ++ [] in among_next init t.test (t.test ∷ later) (among_first t.test later)
  tests_test (kinds.ForOf init) = among_next init t.test (t.test ∷ []) (among_first t.test [])
  tests_test kinds.ForIn = among_first t.test []

  pub tests_before : (kind : LoopKind) (key : BlockId) → before_of kind ≡ Some key
      → is_among (blocks_as Test (terminal_with kind t)) key ≡ true
  tests_before kinds.While key e = let bad : ⊥ = cc in absurd bad
  tests_before kinds.DoWhile key e = let bad : ⊥ = cc in absurd bad
  tests_before (kinds.For init update) key e =
      subst (λ z. is_among (init ∷ t.test ∷ (option_to_list z ++ [])) key ≡ true) (sym e)
      (among_next init key (t.test ∷ key ∷ []) (among_next t.test key (key ∷ []) (among_first key [])))
  tests_before (kinds.ForOf init) key e =
      subst (λ z. is_among (option_to_list z ++ t.test ∷ []) key ≡ true) (sym e) (among_first key (t.test ∷ []))
  tests_before kinds.ForIn key e = let bad : ⊥ = cc in absurd bad

  pub tests_init : (kind : LoopKind) (key : BlockId) → init_of kind ≡ Some key
      → is_among (blocks_as Test (terminal_with kind t)) key ≡ true
  tests_init kinds.While key e = let bad : ⊥ = cc in absurd bad
  tests_init kinds.DoWhile key e = let bad : ⊥ = cc in absurd bad
  tests_init (kinds.For init update) key e =
      subst (λ z. is_among (option_to_list z ++ t.test ∷ (option_to_list update ++ [])) key ≡ true) (sym e)
      (among_first key (t.test ∷ (option_to_list update ++ [])))
  tests_init (kinds.ForOf init) key e = let bad : ⊥ = cc in absurd bad
  tests_init kinds.ForIn key e = let bad : ⊥ = cc in absurd bad

  pub tests_start : (kind : LoopKind)
      → is_among (blocks_as Test (terminal_with kind t)) (first_of (before_of kind) t.test) ≡ true
  tests_start kind = go (before_of kind) refl
    where
      go : (at : Option BlockId) → before_of kind ≡ at
          → is_among (blocks_as Test (terminal_with kind t)) (first_of at t.test) ≡ true
      go None e = tests_test kind
      go (Some key) e = tests_before kind key e

  -- a loop refers to its init, and then to its turns
  pub parts_le : (kind : LoopKind) (key : BlockId)
      → times key (option_to_list (init_of kind)
      ++ ((t.test ∷ option_to_list (before_of kind)) ++ t.body ∷ t.fallthrough ∷ []))
      ≤ times key (referenced_blocks (terminal_with kind t))
  parts_le kinds.While key = omega arith
  parts_le kinds.DoWhile key = omega arith
  parts_le (kinds.For init update) key = omega arith
  parts_le (kinds.ForOf init) key = omega arith
  parts_le kinds.ForIn key = omega arith
