-- Label pruning makes no label and no jump: a fact of all block numbers of a tree holds of those that are left.
use Rattle.std.proofs.Common.{◌≡◌, ◌∙◌, Bool, true, false, List, [], ◌∷◌, ◌++◌, All, Option, None, Some, append-nil}
use Rattle.std.proofs.Common.{if◌then◌else◌, refl, sym, ap, subst}
use Rattle.std.proofs.lemmas.List.Elements.{All-append}
use Rattle.std.specs.FinSet.{empty}
use Rattle.rc_checks.specs.Labels.{IsWithoutUnusedLabels, Targets, flattened, in_place_of, is_named, is_target}
use Rattle.rc_checks.specs.Labels.{label_after, label_rules, targets_behind}
use Rattle.rc_early.specs.NewBlocks.{block_parts, blocks_in, label_block}
use Rattle.rc_names.specs.Numbers.{BlockId}
use Rattle.rc_runs.proofs.AllLemmas.{All-left, All-right}
use Rattle.rc_tree.proofs.CollectedLemmas.{collected-block, collected-Instruction, collected-Label}
use Rattle.rc_tree.proofs.CollectedLemmas.{collected-PrunedScope, collected-Scope, collected-Terminal}
use Rattle.rc_tree.proofs.JoiningLemmas.{lists_monoid}
use Rattle.rc_tree.proofs.RebuiltRelated.{RelatesRules, rebuilt_related, stands}
use Rattle.rc_tree.specs.Collected.{collected_list, collected_statement, collected_terminal}
use Rattle.rc_tree.specs.Model.{ReactiveBlock, ReactiveLabel, ReactiveStatement, ReactiveTerminalStatement}
use Rattle.rc_tree.specs.Unrolled.{UnrolledTerminal}
use Rattle.rc_tree.specs.declared.statement.ReactiveStatement.TheOpen as layer
use Rattle.rc_tree.specs.declared.statement.ReactiveStatement.TheVariants as reactive
use Rattle.rc_tree.specs.declared.terminal.ReactiveTerminal.{out-ReactiveTerminal}
use Rattle.rc_tree.specs.declared.terminal.ReactiveTerminal.{roll-ReactiveTerminal, roll-out-ReactiveTerminal}
use Rattle.rc_tree.specs.declared.terminal.ReactiveTerminal.TheVariants as tree

-- an implicit label keeps its number
same_label : (targets : Targets) (label : Option ReactiveLabel)
    → label_block (label_after targets label) ≡ label_block label
same_label targets None = refl
same_label targets (Some label) = by (is_target targets label.id)
  where
    by : (named : Bool) → label_block (Some (if named then label else record { id = label.id; implicit = true }))
        ≡ label_block (Some label)
    by true = refl
    by false = refl

module _ (P : BlockId → Type 0) where
  -- the property goes on from some numbers to others
  abbrev GoesOn : List BlockId → List BlockId → Type 0
  GoesOn before after = All P before → All P after

  -- of one statement
  alone : (x : ReactiveStatement) {it : List BlockId} → collected_statement block_parts x ≡ it → All P it
      → All P (collected_list block_parts (x ∷ []))
  alone x e all = subst (All P) (sym (append-nil (collected_statement block_parts x) ∙ e)) all

  -- what is put in a terminal's place has no other numbers
  placed : (targets : Targets) (x : ReactiveTerminalStatement) (l : UnrolledTerminal)
      → out-ReactiveTerminal x.terminal ≡ l
      → GoesOn (label_block x.label ++ collected_terminal block_parts x.terminal)
      (collected_list block_parts (in_place_of targets x (flattened targets x.label l)))
  placed targets x l e all = by l e
    where
      kept : All P (collected_list block_parts (in_place_of targets x None))
      kept = alone (reactive.Terminal (record { terminal = x.terminal; label = label_after targets x.label }))
          (collected-Terminal block_parts (record { terminal = x.terminal; label = label_after targets x.label })
          ∙ ap (λ label. label ++ collected_terminal block_parts x.terminal) (same_label targets x.label)) all

      by : (l : UnrolledTerminal) → out-ReactiveTerminal x.terminal ≡ l
          → All P (collected_list block_parts (in_place_of targets x (flattened targets x.label l)))
      by (layer.Label body id) e = split (is_named targets x.label)
        where
          same : x.terminal ≡ tree.Label body id
          same = sym (roll-out-ReactiveTerminal x.terminal) ∙ ap roll-ReactiveTerminal e ∙ tree.rolls-Label body id

          inside : collected_terminal block_parts x.terminal ≡ collected_list block_parts body.statements
          inside = ap (collected_terminal block_parts) same ∙ collected-Label block_parts body id
              ∙ collected-block block_parts body

          split : (named : Bool)
              → All P (collected_list block_parts
              (in_place_of targets x (if named then None else Some body.statements)))
          split true = kept
          split false = subst (All P) inside
              (All-right P (label_block x.label) (collected_terminal block_parts x.terminal) all)
      by l e = kept

  related : RelatesRules label_rules GoesOn block_parts block_parts
  related = record {
    joined = record {
      nothing = λ all. all;
      both = λ x x1 y y1 e f all.
          All-append P y y1 (e (All-left P x x1 all)) (f (All-right P x x1 all));
    };
    value = λ id x all. all;
    place = λ id x all. all;
    returned = λ id x all. all;
    jump = λ target all. all;
    row = λ x s r e. stands (λ xs. GoesOn [] (collected_list block_parts xs)) _ _ r e
        (alone (reactive.Instruction x) (collected-Instruction block_parts x));
    terminal = λ label x t s r e f.
        let statement : ReactiveTerminalStatement = record { terminal = t; label = label } in
        stands (λ xs. GoesOn (label_block label ++ x) (collected_list block_parts xs)) _ _ r e
        (λ all. placed (targets_behind (out-ReactiveTerminal t) s) statement (out-ReactiveTerminal t) refl
        (All-append P (label_block label) (collected_terminal block_parts t)
        (All-left P (label_block label) x all) (f (All-right P (label_block label) x all))));
    scope = λ of x inside met s r e f. stands (λ xs. GoesOn x (collected_list block_parts xs)) _ _ r e
        (λ all. alone (reactive.Scope (record { scope = of; instructions = inside }))
        (collected-Scope block_parts (record { scope = of; instructions = inside })) (f all));
    pruned_scope = λ of x inside s r e f. stands (λ xs. GoesOn x (collected_list block_parts xs)) _ _ r e
        (λ all. alone (reactive.PrunedScope (record { scope = of; instructions = inside }))
        (collected-PrunedScope block_parts (record { scope = of; instructions = inside })) (f all));
    block = λ x xs s r e f. stands (λ ys. GoesOn x (collected_list block_parts ys)) s xs r e f;
  }

  pub blocks_stay : (before after : ReactiveBlock) → IsWithoutUnusedLabels before after → All P (blocks_in before)
      → All P (blocks_in after)
  blocks_stay before after is = rebuilt_related label_rules GoesOn block_parts block_parts lists_monoid related before
      empty is.targets after is.rebuilt
