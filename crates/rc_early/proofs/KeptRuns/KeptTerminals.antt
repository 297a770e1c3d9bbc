-- A terminal whose one list, or two lists, keep their runs with early returns keeps its own.
use Rattle.std.proofs.Common.{◌≡◌, ◌∙◌, true, List, [], ◌∷◌, Option, Ok, refl, sym}
use Rattle.std.proofs.Common.{ap, subst}
use Rattle.rc_hir.specs.Model.{Environment, Place}
use Rattle.rc_tree.specs.Model.{ReactiveBlock, ReactiveLabel, ReactiveStatement, ReactiveTerminal}
use Rattle.rc_tree.specs.Model.{ReactiveTerminalStatement}
use Rattle.rc_tree.specs.Rebuilt.{rebuilt_block, rebuilt_labeled}
use Rattle.rc_tree.specs.Rebuilt.{rebuilt_statement, rebuilt_terminal}
use Rattle.rc_tree.specs.Unrolled.{UnrolledTerminal}
use Rattle.rc_tree.specs.declared.statement.ReactiveStatement.TheOpen as layer
use Rattle.rc_tree.specs.declared.statement.ReactiveStatement.TheVariants as reactive
use Rattle.rc_tree.specs.declared.terminal.ReactiveTerminal.{out-ReactiveTerminal}
use Rattle.rc_tree.proofs.RebuiltLemmas.{rebuilt-labeled, rebuilt-Terminal}
use Rattle.rc_tree.proofs.StepLemmas.{Ok-injective}
use Rattle.rc_tree.proofs.TerminalShapes.{TwoBlocks, has_inside, one_block_inside, rebuilt-one, rebuilt-two}
use Rattle.rc_tree.proofs.TerminalShapes.{two_blocks_inside, with_block, with_blocks}
use Rattle.rc_runs.specs.PlainTree.{Statements}
use Rattle.rc_runs.specs.PlainTree.{TerminalStatement, TreeTerminal}
use Rattle.rc_runs.specs.Returning.{returning, returning_after}
use Rattle.rc_runs.specs.Returning.{returning_statement, returning_terminal}
use Rattle.rc_runs.specs.TreeOf.{block_of, statements_of, terminal_of}
use Rattle.rc_runs.proofs.KeepsRunsLemmas.{SameRuns}
use Rattle.rc_runs.proofs.PlainLists.{labeled}
use Rattle.rc_early.specs.EarlyReturned.{Progress, early_return_rules as rules, terminal_at}
use Rattle.rc_early.specs.declared.early_return.Where.{Where}
use Rattle.rc_early.specs.declared.early_return.Where.TheVariants.{Within}
use Rattle.rc_early.proofs.KeptRuns.KeptParts.{AreResult, KeptBody, KeptFrom}
use Rattle.rc_early.proofs.KeptRuns.KeptParts.{KeptStatement, StatementAlike, from_bind, kept_at}
use Rattle.rc_early.proofs.KeptRuns.PlainShapes.{OneList, returning-one, returning-two, same-one, same-two, shape_of}
use Rattle.rc_early.proofs.KeptRuns.PlainShapes.{tree_of-one, tree_of-two, with_list, with_lists}

module _ (old : Environment) where
  -- a terminal with an inside stays, wherever it is
  stays_inside : (at : Where) (terminal : UnrolledTerminal) (statement : ReactiveTerminalStatement) (s : Progress)
      → has_inside terminal ≡ true
      → terminal_at old at terminal statement s ≡ Ok (s, reactive.Terminal statement ∷ [])
  stays_inside Within (layer.Return place id) statement s inside = absurd (let bad : ⊥ = cc in bad)
  stays_inside at terminal statement s inside = refl

  -- the terminal with its inside rebuilt, and what its rule makes of it
  pub of_terminal : (x : ReactiveTerminalStatement) (s : Progress) (r : Progress × List ReactiveStatement)
      → rebuilt_statement (rules old) (reactive.Terminal x) s ≡ Ok r
      → (c : Progress × ReactiveTerminal) × (rebuilt_terminal (rules old) x.terminal s ≡ Ok c)
      × (terminal_at old c.0.at (out-ReactiveTerminal c.1) (record { terminal = c.1; label = x.label }) c.0 ≡ Ok r)
  of_terminal x s r e =
      let whole = from_bind (rebuilt_labeled (rules old) x s) _ r
      (sym (rebuilt-Terminal (rules old) x s) ∙ e) in
      let parts = from_bind (rebuilt_terminal (rules old) x.terminal s) _ whole.0
      (sym (rebuilt-labeled (rules old) x s) ∙ whole.1) in (
        parts.0,
        parts.1,
        ap (λ (c : Progress × ReactiveTerminalStatement).
            terminal_at old c.0.at (out-ReactiveTerminal c.1.terminal) c.1 c.0)
            (Ok-injective (parts.0.0, record { terminal = parts.0.1; label = x.label }) whole.0 parts.2)
            ∙ whole.2,
      )

  module _ (new : Environment) where
    -- a terminal has the runs of the one in its place, if that is so with early returns in both
    pub terminal_alike : (before after before' after' : TreeTerminal) (label : Option ReactiveLabel)
        → ((stored : Option Place) → returning_terminal old stored before ≡ before')
        → ((stored : Option Place) → returning_terminal new stored after ≡ after')
        → SameRuns new (labeled before' label) (labeled after' label)
        → StatementAlike old new (TerminalStatement before label) (labeled after label)
    unfolding returning_after returning_statement
    terminal_alike before after before' after' label e f same stored =
        (rw (e stored, f stored) same, refl)

    -- what is asked of the terminal in the place of one with that label
    abbrev pub TerminalAlike : TreeTerminal → Option ReactiveLabel → TreeTerminal → Type 0
    TerminalAlike before label after = StatementAlike old new (TerminalStatement before label) (labeled after label)

    -- a terminal with an inside, whose rule leaves it
    pub inside_kept : (before : TreeTerminal) (label : Option ReactiveLabel)
        → ((s : Progress) (c : Progress × ReactiveTerminal)
        → rebuilt_terminal (rules old) (terminal_of before) s ≡ Ok c
        → has_inside (out-ReactiveTerminal c.1) ≡ true)
        → KeptFrom old new (rebuilt_terminal (rules old) (terminal_of before)) terminal_of
        (TerminalAlike before label)
        → KeptStatement old new (TerminalStatement before label)
    inside_kept before label inside kept s r e =
        let parts = of_terminal (record { terminal = terminal_of before; label = label }) s r e in
        let placed : ReactiveTerminalStatement = record { terminal = parts.0.1; label = label } in
        kept_at old new statements_of (StatementAlike old new (TerminalStatement before label)) s parts.0.0
        (reactive.Terminal placed ∷ []) r
        (sym (stays_inside parts.0.0.at (out-ReactiveTerminal parts.0.1) placed parts.0.0 (inside s parts.0 parts.1))
        ∙ parts.2) (λ suits.
        let terminal = kept s parts.0 parts.1 suits in
        record {
          suits = terminal.suits;
          after = labeled terminal.after label;
          tree = ap (λ y. reactive.Terminal (record { terminal = y; label = label }) ∷ []) terminal.tree;
          alike = terminal.alike;
        })

    -- the result of rebuilding a terminal has an inside
    abbrev HasInside : Progress × ReactiveTerminal → Type 0
    HasInside c = has_inside (out-ReactiveTerminal c.1) ≡ true

    pub made_inside : (t : Progress) (x : ReactiveTerminal) (c : Progress × ReactiveTerminal)
        → AreResult t x c → has_inside (out-ReactiveTerminal x) ≡ true → has_inside (out-ReactiveTerminal c.1) ≡ true
    made_inside t x c e inside = subst HasInside (Ok-injective (t, x) c e) inside

    -- a terminal with one list
    one_parts : (shape : OneList) (body : Statements) (s : Progress) (c : Progress × ReactiveTerminal)
        → rebuilt_terminal (rules old) (terminal_of (with_list shape body)) s ≡ Ok c
        → (b : Progress × ReactiveBlock) × (rebuilt_block (rules old) (block_of body) s ≡ Ok b)
        × AreResult b.0 (with_block (shape_of shape) b.1) c
    one_parts shape body s c e = from_bind (rebuilt_block (rules old) (block_of body) s) _ c
        (sym (ap (λ t. rebuilt_terminal (rules old) t s) (tree_of-one shape body)
        ∙ rebuilt-one (rules old) (shape_of shape) (block_of body) s) ∙ e)

    pub one_kept : (shape : OneList) (body : Statements) (label : Option ReactiveLabel) → KeptBody old new body
        → KeptStatement old new (TerminalStatement (with_list shape body) label)
    one_kept shape body label inside = inside_kept (with_list shape body) label
        (λ s c e. let parts = one_parts shape body s c e in
        made_inside parts.0.0 _ c parts.2 (one_block_inside (shape_of shape) parts.0.1))
        (λ s c e. let parts = one_parts shape body s c e in
        kept_at old new terminal_of (TerminalAlike (with_list shape body) label) s parts.0.0
        (with_block (shape_of shape) parts.0.1) c parts.2 (λ suits.
        let kept = inside s parts.0 parts.1 suits in
        record {
          suits = kept.suits;
          after = with_list shape kept.after;
          tree = ap (with_block (shape_of shape)) kept.tree ∙ sym (tree_of-one shape kept.after);
          alike = terminal_alike (with_list shape body) (with_list shape kept.after)
              (with_list shape (returning old body)) (with_list shape (returning new kept.after)) label
              (λ stored. returning-one old stored shape body)
              (λ stored. returning-one new stored shape kept.after)
              (same-one new shape label (returning old body) (returning new kept.after) kept.alike);
        }))

    -- a terminal with two lists
    two_parts : (shape : TwoBlocks) (first second : Statements) (s : Progress) (c : Progress × ReactiveTerminal)
        → rebuilt_terminal (rules old) (terminal_of (with_lists shape first second)) s ≡ Ok c
        → (b : Progress × ReactiveBlock) × (rebuilt_block (rules old) (block_of first) s ≡ Ok b)
        × (d : Progress × ReactiveBlock) × (rebuilt_block (rules old) (block_of second) b.0 ≡ Ok d)
        × AreResult d.0 (with_blocks shape b.1 d.1) c
    two_parts shape first second s c e =
        let one = from_bind (rebuilt_block (rules old) (block_of first) s) _ c
        (sym (ap (λ t. rebuilt_terminal (rules old) t s) (tree_of-two shape first second)
        ∙ rebuilt-two (rules old) shape (block_of first) (block_of second) s) ∙ e) in
        let two = from_bind (rebuilt_block (rules old) (block_of second) one.0.0) _ c one.2 in
        (one.0, one.1, two.0, two.1, two.2)

    pub two_kept : (shape : TwoBlocks) (first second : Statements) (label : Option ReactiveLabel)
        → KeptBody old new first → KeptBody old new second
        → KeptStatement old new (TerminalStatement (with_lists shape first second) label)
    two_kept shape first second label inside later = inside_kept (with_lists shape first second) label
        (λ s c e. let parts = two_parts shape first second s c e in
        made_inside parts.2.0 _ c parts.4 (two_blocks_inside shape parts.0.1 parts.2.1))
        (λ s c e. let parts = two_parts shape first second s c e in
        kept_at old new terminal_of (TerminalAlike (with_lists shape first second) label) s parts.2.0
        (with_blocks shape parts.0.1 parts.2.1) c parts.4 (λ suits.
        let more = later parts.0.0 parts.2 parts.3 suits in
        let kept = inside s parts.0 parts.1 more.suits in
        record {
          suits = kept.suits;
          after = with_lists shape kept.after more.after;
          tree = (λ i. with_blocks shape (kept.tree i) (more.tree i)) ∙ sym (tree_of-two shape kept.after more.after);
          alike = terminal_alike (with_lists shape first second) (with_lists shape kept.after more.after)
              (with_lists shape (returning old first) (returning old second))
              (with_lists shape (returning new kept.after) (returning new more.after)) label
              (λ stored. returning-two old stored shape first second)
              (λ stored. returning-two new stored shape kept.after more.after)
              (same-two new shape label (returning old first) (returning new kept.after) (returning old second)
              (returning new more.after) kept.alike more.alike);
        }))
