-- Jumps, returns and throws keep their runs with early returns. They stay, and jumps to early return labels still
-- return. But a `Return` in a scope block becomes a store and a jump, which returns where the environment has that
-- early return.
use Rattle.std.proofs.Common.{◌≡◌, ◌∙◌, ◌<◌, Bool, true, false, List, [], ◌∷◌, Option, None, Some, Result, Ok, Err}
use Rattle.std.proofs.Common.{length, refl}
use Rattle.std.proofs.Common.{sym, ap, subst}
use Rattle.std.specs.Prelude.{IfSome, ◌+◌, if◌then◌else◌}
use Rattle.rc_names.specs.Numbers.{BlockId, EvaluationOrder}
use Rattle.rc_hir.specs.Model.{Environment, Fault, Place, ReactiveScopeEarlyReturn}
use Rattle.rc_tree.specs.Model.{ReactiveLabel, ReactiveStatement, ReactiveTerminal, ReactiveTerminalTargetKind}
use Rattle.rc_tree.specs.Rebuilt.{rebuilt_terminal}
use Rattle.rc_tree.specs.Unrolled.{UnrolledTerminal}
use Rattle.rc_tree.specs.declared.kind.ReactiveTerminalTargetKind.TheVariants.{Labeled}
use Rattle.rc_tree.specs.declared.statement.ReactiveStatement.TheOpen as layer
use Rattle.rc_tree.specs.declared.statement.ReactiveStatement.TheVariants as reactive
use Rattle.rc_tree.specs.declared.terminal.ReactiveTerminal.{out-ReactiveTerminal}
use Rattle.rc_tree.specs.declared.terminal.ReactiveTerminal.TheVariants as tree
use Rattle.rc_tree.proofs.StepLemmas.{Ok-injective}
use Rattle.rc_tree.proofs.TerminalShapes as shapes
use Rattle.rc_tree.proofs.TerminalShapes.{Leaf, leaf, rebuilt-leaf}
use Rattle.rc_runs.specs.PlainTree.{Break, Return, TerminalStatement}
use Rattle.rc_runs.specs.Returning.{is_early_label, returning_after, returning_break, returning_statement}
use Rattle.rc_runs.specs.Returning.{returning_terminal}
use Rattle.rc_runs.specs.TreeOf.{statements_of, terminal_of}
use Rattle.rc_runs.proofs.KeepsRunsLemmas.{SameRuns, same-keeps_runs}
use Rattle.rc_runs.proofs.PlainLists.{labeled}
use Rattle.rc_early.specs.Entries.{has_room, next_entry}
use Rattle.rc_early.specs.EarlyReturned.{Progress, early_return_rules as rules, return_within, terminal_at}
use Rattle.rc_early.specs.Statements as trees
use Rattle.rc_early.specs.declared.early_return.Where.{Where}
use Rattle.rc_early.specs.declared.early_return.Where.TheVariants.{Outside, Within, PassedOver}
use Rattle.rc_early.proofs.KeptRuns.AddedRows.{return_runs, returning-stored_return, stored_return}
use Rattle.rc_early.proofs.KeptRuns.KeptParts.{AreResult, Fits, Kept, KeptStatement, StatementAlike, Suits, kept_at}
use Rattle.rc_early.proofs.KeptRuns.KeptTerminals.{of_terminal}
use Rattle.rc_early.proofs.KeptRuns.PlainParts.{Asked, HoldsAt}
use Rattle.rc_early.proofs.KeptRuns.PlainShapes.{plain_leaf, tree_of-leaf}

-- what is asked of a tree whose jumps name no new block
abbrev pub old_blocks : Environment → Asked
old_blocks env = record {
  Row = λ target value. Unit {0};
  OfValue = λ value. Unit {0};
  Jump = λ block. block.0 < env.next_block;
}

-- a result that is chosen from two, of which the other is a fault
if_ok : {X : Type 0} (test : Bool) (e : Result X Fault) (fault : Fault) (r : X)
    → (if test then e else Err fault) ≡ Ok r → e ≡ Ok r
if_ok true e fault r is = is
if_ok false e fault r is = absurd (let bad : ⊥ = cc in bad)

-- the form of a terminal without a block
abbrev unrolled : Leaf → UnrolledTerminal
unrolled (shapes.Break target kind id) = layer.Break target kind id
unrolled (shapes.Continue target kind id) = layer.Continue target kind id
unrolled (shapes.Return value id) = layer.Return value id
unrolled (shapes.Throw value id) = layer.Throw value id

out-leaf : (shape : Leaf) → out-ReactiveTerminal (leaf shape) ≡ unrolled shape
out-leaf (shapes.Break target kind id) = tree.outs-Break target kind id
out-leaf (shapes.Continue target kind id) = tree.outs-Continue target kind id
out-leaf (shapes.Return value id) = tree.outs-Return value id
out-leaf (shapes.Throw value id) = tree.outs-Throw value id

module _ (old new : Environment)
    (same : (block : BlockId) → block.0 < old.next_block → is_early_label new block ≡ is_early_label old block) where
  break_same : (stored : Option Place) (target : BlockId) (kind : ReactiveTerminalTargetKind) (id : EvaluationOrder)
      → target.0 < old.next_block
      → returning_break new stored target kind id ≡ returning_break old stored target kind id
  break_same (Some place) target Labeled id is =
      ap (λ early. if early then Return place id else Break target Labeled id) (same target is)
  break_same stored target kind id is = refl

  -- early returns at a terminal without a list
  leaf_same : (shape : Leaf) → HoldsAt (old_blocks old) (plain_leaf shape) → (stored : Option Place)
      → returning_terminal new stored (plain_leaf shape) ≡ returning_terminal old stored (plain_leaf shape)
  unfolding returning_terminal
  leaf_same (shapes.Break target kind id) h stored = break_same stored target kind id h
  leaf_same (shapes.Continue target kind id) h stored = refl
  leaf_same (shapes.Return value id) h stored = refl
  leaf_same (shapes.Throw value id) h stored = refl

  leaf_alike : (shape : Leaf) (label : Option ReactiveLabel) → HoldsAt (old_blocks old) (plain_leaf shape)
      → StatementAlike old new (TerminalStatement (plain_leaf shape) label) (labeled (plain_leaf shape) label)
  unfolding returning_after returning_statement
  leaf_alike shape label h stored = (rw (leaf_same shape h stored) (same-keeps_runs new _, same-keeps_runs new _), refl)

  -- one that stays
  leaf_stays : (shape : Leaf) (label : Option ReactiveLabel) (s : Progress) (r : Progress × List ReactiveStatement)
      → HoldsAt (old_blocks old) (plain_leaf shape)
      → AreResult s (reactive.Terminal (record { terminal = leaf shape; label = label }) ∷ []) r → Suits old new r.0
      → Kept old new statements_of (StatementAlike old new (TerminalStatement (plain_leaf shape) label)) s r.1
  leaf_stays shape label s r h e =
      kept_at old new statements_of (StatementAlike old new (TerminalStatement (plain_leaf shape) label)) s s _ r e
      (λ suits. record {
        suits = suits;
        after = labeled (plain_leaf shape) label;
        tree = ap (λ y. reactive.Terminal (record { terminal = y; label = label }) ∷ []) (sym (tree_of-leaf shape));
        alike = leaf_alike shape label h;
      })

  -- a `Return` in a scope block
  return_alike : (entry : ReactiveScopeEarlyReturn) (place : Place) (id : EvaluationOrder)
      (label : Option ReactiveLabel) → is_early_label new entry.label ≡ true
      → StatementAlike old new (TerminalStatement (Return place id) label) (stored_return entry place)
  unfolding returning_statement returning_terminal
  return_alike entry place id label is stored = (
    subst (SameRuns new (labeled (Return place id) label)) (sym (returning-stored_return entry new stored place is))
        (return_runs new place id label _ place.span),
    refl,
  )

  return_kept : (place : Place) (id : EvaluationOrder) (label : Option ReactiveLabel) (s t : Progress)
      (entry : ReactiveScopeEarlyReturn) (r : Progress × List ReactiveStatement)
      → AreResult t (trees.stored_return entry place) r → (Suits old new t → Suits old new s × Fits old new entry)
      → Suits old new r.0
      → Kept old new statements_of (StatementAlike old new (TerminalStatement (Return place id) label)) s r.1
  return_kept place id label s t entry r e back =
      kept_at old new statements_of (StatementAlike old new (TerminalStatement (Return place id) label)) s t _ r e
      (λ suits. let known = back suits in record {
        suits = known.0;
        after = stored_return entry place;
        tree = refl;
        alike = return_alike entry place id label known.1.0;
      })

  by_met : (place : Place) (id : EvaluationOrder) (label : Option ReactiveLabel) (s : Progress)
      (r : Progress × List ReactiveStatement) (met : Option ReactiveScopeEarlyReturn) → s.met ≡ met
      → return_within old met place s ≡ Ok r → Suits old new r.0
      → Kept old new statements_of (StatementAlike old new (TerminalStatement (Return place id) label)) s r.1
  by_met place id label s r (Some entry) is e = return_kept place id label s s entry r e
      (λ suits. (suits, subst (λ met. IfSome met (Fits old new)) is suits.0))
  by_met place id label s r None is e =
      let entry = next_entry old (length s.made) place.span in
      return_kept place id label s (record s { met = Some entry }) entry r
      (if_ok (has_room old (length s.made + 1)) _ _ r e)
      (λ suits. ((subst (λ met. IfSome met (Fits old new)) (sym is) tt, suits.1), suits.0))

  pub leaf_kept : (shape : Leaf) (label : Option ReactiveLabel) → HoldsAt (old_blocks old) (plain_leaf shape)
      → KeptStatement old new (TerminalStatement (plain_leaf shape) label)
  leaf_kept shape label h s r e =
      let parts = of_terminal old (record { terminal = terminal_of (plain_leaf shape); label = label }) s r e in
      let there = sym (rebuilt-leaf (rules old) shape s)
      ∙ sym (ap (λ t. rebuilt_terminal (rules old) t s) (tree_of-leaf shape)) ∙ parts.1 in
      by shape h s.at (ap (λ t. terminal_at old s.at t (record { terminal = leaf shape; label = label }) s)
      (sym (out-leaf shape)) ∙ ap (λ (c : Progress × ReactiveTerminal).
      terminal_at old c.0.at (out-ReactiveTerminal c.1) (record { terminal = c.1; label = label }) c.0)
      (Ok-injective (s, leaf shape) parts.0 there) ∙ parts.2)
    where
      by : (shape : Leaf) → HoldsAt (old_blocks old) (plain_leaf shape) → (at : Where)
          → terminal_at old at (unrolled shape) (record { terminal = leaf shape; label = label }) s ≡ Ok r
          → Suits old new r.0
          → Kept old new statements_of (StatementAlike old new (TerminalStatement (plain_leaf shape) label)) s r.1
      by (shapes.Return place id) h Within e = by_met place id label s r s.met refl e
      by (shapes.Break target kind id) h Within e = leaf_stays (shapes.Break target kind id) label s r h e
      by (shapes.Continue target kind id) h Within e = leaf_stays (shapes.Continue target kind id) label s r h e
      by (shapes.Throw value id) h Within e = leaf_stays (shapes.Throw value id) label s r h e
      by shape h Outside e = leaf_stays shape label s r h e
      by shape h PassedOver e = leaf_stays shape label s r h e
