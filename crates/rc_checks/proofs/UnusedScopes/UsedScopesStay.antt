-- Where unused scopes are pruned, exactly those scope blocks stay whose scopes give something, and the log says of the
-- others, in the order in which they end; and a fault names the scope of a scope block that is outside the table.
use Rattle.std.proofs.Common.{◌≡◌, ◌∙◌, Bool, true, false, List, [], ◌∷◌, ◌++◌, Option, None, Some, Result, Ok, Err, refl}
use Rattle.std.proofs.Common.{append_assoc, map, not, sym, ap, subst, slice_get, arith, ◌||◌, if◌then◌else◌}
use Rattle.std.proofs.lemmas.List.{append-nil, map-append}
use Rattle.std.proofs.Math.Bool.{or-false, or_assoc}
use Rattle.std.proofs.lemmas.Bool.{or_parts}
use Rattle.std.proofs.lemmas.List.Elements.{filter-append, Contains-append_left, Contains-append_right}
use Rattle.std.specs.List.{filter, Contains}
use Rattle.std.specs.Option.{option_map_or}
use Rattle.std.specs.Prelude.{IfOk}
use Rattle.rc_hir.specs.Model.{Environment, Fault, ReactiveScope}
use Rattle.rc_names.specs.Numbers.{ScopeId}
use Rattle.rc_tree.proofs.AloneLemmas.{alone-Instruction, alone-Terminal, alone-Scope, alone-PrunedScope}
use Rattle.rc_tree.proofs.PlaceLemmas.{past_end}
use Rattle.rc_tree.proofs.RebuiltHolds.{HoldsOfRules, and_then, having, rebuilt_holds}
use Rattle.rc_tree.proofs.TerminalShapes.{Leaf, Break, Continue, Return, Throw, leaf, of_leaf, has_inside, collected-leaf}
use Rattle.rc_tree.specs.Collected.{collected_list, collected_terminal}
use Rattle.rc_tree.specs.Pruned.{as_pruned}
use Rattle.rc_tree.specs.Rebuilt.{Rebuilds, rebuilt_block}
use Rattle.rc_tree.specs.Step.{bind}
use Rattle.rc_tree.specs.Unrolled.{UnrolledTerminal}
use Rattle.rc_tree.specs.declared.fate.Fate.TheVariants.{Unused}
use Rattle.rc_tree.specs.declared.fate.ScopeFate.{ScopeFate}
use Rattle.rc_tree.specs.Model.{ReactiveLabel, ReactiveScopeBlock, ReactiveBlock, ReactiveStatement}
use Rattle.rc_tree.specs.declared.statement.ReactiveStatement.TheOpen as layer
use Rattle.rc_tree.specs.declared.terminal.ReactiveTerminal.{ReactiveTerminal, out-ReactiveTerminal}
use Rattle.rc_tree.specs.declared.terminal.ReactiveTerminal.TheVariants as tree
use Rattle.rc_checks.proofs.ScopeBlocks.ContentsLemmas.{contents_monoid}
use Rattle.rc_checks.specs.ScopeBlocks.{Contents, ScopeBlock, contents_of_parts, contents, scope_blocks}
use Rattle.rc_checks.specs.ScopeBlocks.{joining}
use Rattle.rc_checks.specs.UnusedScopes.{IsBlockOutside, staying_blocks, IsFirstScopeOutside, LosesUnusedScopes}
use Rattle.rc_checks.specs.UnusedScopes.{Progress, decisions, has_own_output, is_return, is_used, judged}
use Rattle.rc_checks.specs.UnusedScopes.{judged_by, nothing_met, stays, unused_scope_rules}

-- what statements hold
abbrev holds : List ReactiveStatement → Contents
holds = collected_list contents_of_parts

-- a leaf is a `Return` if its contents say so, and no other terminal is one
leaf_returns : (shape : Leaf) → is_return (out-ReactiveTerminal (leaf shape)) ≡ (of_leaf contents_of_parts shape).returns
leaf_returns (Break target kind id) = ap is_return (tree.outs-Break target kind id)
leaf_returns (Continue target kind id) = ap is_return (tree.outs-Continue target kind id)
leaf_returns (Return value id) = ap is_return (tree.outs-Return value id)
leaf_returns (Throw value id) = ap is_return (tree.outs-Throw value id)

inside_never_returns : (x : UnrolledTerminal) → has_inside x ≡ true → is_return x ≡ false
inside_never_returns (layer.Return value id) e = let bad : ⊥ = cc in absurd bad
inside_never_returns _ e = refl

leaf_blocks : (shape : Leaf) → (of_leaf contents_of_parts shape).blocks ≡ []
leaf_blocks (Break target kind id) = refl
leaf_blocks (Continue target kind id) = refl
leaf_blocks (Return value id) = refl
leaf_blocks (Throw value id) = refl

module _ (env : Environment) where
  -- the contents that are left of a part's
  abbrev staying : Contents → Contents
  staying it = record { returns = it.returns; blocks = filter (stays env) it.blocks }

  -- of a part that held `before` and is rebuilt from a state: the state after it and what it holds; or what the fault
  -- names, which is the scope of one of these blocks, outside the table
  unfoldable Stays : Contents → Progress → Result (Progress × Contents) Fault → Type 0
  Stays before met (Ok r) = (r.0.returns ≡ (met.returns || before.returns))
      × (r.0.log ≡ met.log ++ decisions env before.blocks) × (r.1 ≡ staying before)
  Stays before met (Err fault) = (block : ScopeBlock) × Contains before.blocks block × IsBlockOutside env fault block

  nothing_stays : (met : Progress) → Stays joining.nothing met (Ok (met, joining.nothing))
  unfolding Stays
  nothing_stays met = (sym (or-false met.returns), sym (append-nil met.log), refl)

  decisions-append : (xs ys : List ScopeBlock) → decisions env (xs ++ ys) ≡ decisions env xs ++ decisions env ys
  decisions-append xs ys = ap (map (λ (block : ScopeBlock). record { scope = block.scope; fate = Unused }))
      (filter-append (λ block. not (stays env block)) xs ys)
      ∙ map-append (λ (block : ScopeBlock). record { scope = block.scope; fate = Unused })
      (filter (λ block. not (stays env block)) xs) (filter (λ block. not (stays env block)) ys)

  -- more was decided, and then still more
  more_decided : (old middle new : List ScopeFate) (xs ys : List ScopeBlock) → middle ≡ old ++ decisions env xs
      → new ≡ middle ++ decisions env ys → new ≡ old ++ decisions env (xs ++ ys)
  more_decided old middle new xs ys one other = other ∙ ap (λ log. log ++ decisions env ys) one
      ∙ append_assoc old (decisions env xs) (decisions env ys) ∙ ap (λ log. old ++ log) (sym (decisions-append xs ys))

  both_stay : (x y : Contents) (met : Progress) (first : Result (Progress × Contents) Fault)
      (next : Rebuilds Progress Contents) → Stays x met first → IfOk first (λ c. Stays y c.0 (next c.0))
      → Stays (joining.both x y) met (and_then joining.both first next)
  unfolding Stays
  both_stay x y met (Err fault) next h k = (h.0, Contains-append_left x.blocks y.blocks h.0 h.1, h.2)
  both_stay x y met (Ok c) next h k = by (next c.0) k
    where
      by : (e : Result (Progress × Contents) Fault) → Stays y c.0 e
          → Stays (joining.both x y) met (having (joining.both c.1) e)
      by (Err fault) j = (j.0, Contains-append_right x.blocks y.blocks j.0 j.1, j.2)
      by (Ok d) j = (
        j.0 ∙ ap (λ s. s || y.returns) h.0 ∙ or_assoc met.returns x.returns y.returns,
        more_decided met.log c.0.log d.0.log x.blocks y.blocks h.1 j.1,
        (λ i. joining.both (h.2 i) (j.2 i))
            ∙ ap (λ blocks. record { returns = x.returns || y.returns; blocks = blocks })
            (sym (filter-append (stays env) x.blocks y.blocks)),
      )

  leaf_stays : (shape : Leaf) (label : Option ReactiveLabel) (met : Progress)
      → Stays (joining.both joining.nothing (of_leaf contents_of_parts shape)) met
      (having holds ((unused_scope_rules env).terminal (record { terminal = leaf shape; label = label }) met))
  unfolding Stays
  leaf_stays shape label met = (
    ap (λ b. met.returns || b) (leaf_returns shape),
    sym (append-nil met.log) ∙ ap (λ blocks. met.log ++ decisions env blocks) (sym (leaf_blocks shape)),
    alone-Terminal contents_of_parts contents_monoid (record { terminal = leaf shape; label = label })
        ∙ collected-leaf contents_of_parts shape
        ∙ (λ i. record {
          returns = (of_leaf contents_of_parts shape).returns;
          blocks = (leaf_blocks shape ∙ ap (filter (stays env)) (sym (leaf_blocks shape))) i;
        }),
  )

  terminal_stays : (x : Contents) (label : Option ReactiveLabel) (met : Progress)
      (inside : Result (Progress × ReactiveTerminal) Fault)
      → IfOk inside (λ c. has_inside (out-ReactiveTerminal c.1) ≡ true)
      → Stays x met (having (collected_terminal contents_of_parts) inside)
      → Stays x met (having holds
      (bind inside (λ c. (unused_scope_rules env).terminal (record { terminal = c.1; label = label }) c.0)))
  unfolding Stays
  terminal_stays x label met (Err fault) deep h = h
  terminal_stays x label met (Ok c) deep h = (
    ap (λ b. c.0.returns || b) (inside_never_returns (out-ReactiveTerminal c.1) deep) ∙ or-false c.0.returns ∙ h.0,
    h.1,
    alone-Terminal contents_of_parts contents_monoid (record { terminal = c.1; label = label }) ∙ h.2,
  )

  -- a scope block that is judged when its inside is rebuilt
  module _ (met : Progress) (id : ScopeId) (x : Contents) (c : Progress × ReactiveBlock)
      (returns : c.0.returns ≡ x.returns) (log : c.0.log ≡ met.log ++ decisions env x.blocks)
      (inside : contents c.1 ≡ staying x) where
    abbrev block : ReactiveScopeBlock
    block = record { scope = id; instructions = c.1 }

    abbrev before : ScopeBlock
    before = record { scope = id; returns = x.returns }

    -- the last block stays, or it was decided of it
    stays_by : (used : Bool) → stays env before ≡ used
        → filter (stays env) (x.blocks ++ before ∷ [])
        ≡ filter (stays env) x.blocks ++ (if used then before ∷ [] else [])
    stays_by true e = filter-append (stays env) x.blocks (before ∷ []) ∙ rw (e) refl
    stays_by false e = filter-append (stays env) x.blocks (before ∷ []) ∙ rw (e) refl

    decided_by : (used : Bool) → stays env before ≡ used → decisions env (before ∷ [])
        ≡ (if used then [] else record { scope = id; fate = Unused } ∷ [])
    decided_by true e = rw (e) refl
    decided_by false e = rw (e) refl

    judged_by_stays : (used : Bool) → (used ≡ false → x.returns ≡ false) → stays env before ≡ used
        → Stays (contents_of_parts.scope id x) met (having holds (Ok (judged_by used met block c.0)))
    unfolding Stays
    judged_by_stays true not_used e = (
      sym (or-false met.returns),
      more_decided met.log c.0.log c.0.log x.blocks (before ∷ []) log
          (sym (append-nil c.0.log) ∙ ap (λ l. c.0.log ++ l) (sym (decided_by true e))),
      alone-Scope contents_of_parts contents_monoid block ∙ ap (contents_of_parts.scope id) inside
          ∙ (λ i. record { returns = false; blocks = sym (stays_by true e) i }),
    )
    judged_by_stays false not_used e = (
      sym (or-false met.returns),
      more_decided met.log c.0.log (c.0.log ++ record { scope = id; fate = Unused } ∷ []) x.blocks (before ∷ []) log
          (ap (λ l. c.0.log ++ l) (sym (decided_by false e))),
      alone-PrunedScope contents_of_parts contents_monoid (as_pruned block) ∙ inside
          ∙ (λ i. record {
            returns = not_used refl i;
            blocks = (sym (append-nil (filter (stays env) x.blocks)) ∙ sym (stays_by false e)) i;
          }),
    )

    judged_stays : (found : Option ReactiveScope) → slice_get env.scopes id.0 ≡ found
        → Stays (contents_of_parts.scope id x) met (having holds (judged found met block c.0))
    unfolding Stays
    judged_stays None e = (
      before,
      Contains-append_right x.blocks (before ∷ []) before (0, omega arith, refl),
      (refl, past_end env.scopes id.0 e),
    )
    judged_stays (Some scope) e = judged_by_stays (is_used scope id c.0.returns)
        (λ unused. sym returns ∙ (or_parts c.0.returns (has_own_output scope id) unused).0)
        (ap (λ found. option_map_or (λ scope. is_used scope id x.returns) found false) e
        ∙ ap (is_used scope id) (sym returns))

  scope_stays : (x : Contents) (of : ScopeId) (met : Progress) (inside : Result (Progress × ReactiveBlock) Fault)
      → Stays x (record met { returns = false }) (having contents inside)
      → Stays (contents_of_parts.scope of x) met (having holds
      (bind inside (λ c. (unused_scope_rules env).scope met (record { scope = of; instructions = c.1 }) c.0)))
  unfolding Stays
  scope_stays x of met (Err fault) h = (
    h.0,
    Contains-append_left x.blocks (record { scope = of; returns = x.returns } ∷ []) h.0 h.1,
    h.2,
  )
  scope_stays x of met (Ok c) h = judged_stays met of x c h.0 h.1 h.2 (slice_get env.scopes of.0) refl

  pruned_scope_stays : (x : Contents) (of : ScopeId) (met : Progress)
      (inside : Result (Progress × ReactiveBlock) Fault) → Stays x met (having contents inside)
      → Stays x met (having holds
      (bind inside (λ c. (unused_scope_rules env).pruned_scope (record { scope = of; instructions = c.1 }) c.0)))
  unfolding Stays
  pruned_scope_stays x of met (Err fault) h = h
  pruned_scope_stays x of met (Ok c) h = (
    h.0,
    h.1,
    alone-PrunedScope contents_of_parts contents_monoid (record { scope = of; instructions = c.1 }) ∙ h.2,
  )

  block_stays : (x : Contents) (met : Progress) (inside : Result (Progress × List ReactiveStatement) Fault)
      → Stays x met (having holds inside)
      → Stays x met (having holds (bind inside (λ c. (unused_scope_rules env).block c.1 c.0)))
  unfolding Stays
  block_stays x met (Err fault) h = h
  block_stays x met (Ok c) h = h

  all_stay : HoldsOfRules (unused_scope_rules env) Stays contents_of_parts contents_of_parts
  all_stay = record {
    nothing = nothing_stays;
    both = both_stay;
    value = λ id x. nothing_stays;
    place = λ id x. nothing_stays;
    row = λ x met. subst (λ held. Stays joining.nothing met (Ok (met, held)))
        (sym (alone-Instruction contents_of_parts contents_monoid x)) (nothing_stays met);
    leaf = leaf_stays;
    terminal = terminal_stays;
    scope = scope_stays;
    pruned_scope = pruned_scope_stays;
    block = block_stays;
  }

  every_block_stays : (x : ReactiveBlock) (met : Progress)
      → Stays (contents x) met (having contents (rebuilt_block (unused_scope_rules env) x met))
  every_block_stays =
      rebuilt_holds (unused_scope_rules env) Stays contents_of_parts contents_of_parts contents_monoid all_stay

  -- the scope blocks that stay, the decisions on the others, and whether a `Return` is outside them
  pub used_scopes_stay : (before after : ReactiveBlock) (log : List ScopeFate)
      → LosesUnusedScopes env before after log → (scope_blocks after ≡ staying_blocks env before)
      × (log ≡ decisions env (scope_blocks before)) × ((contents after).returns ≡ (contents before).returns)
  unfolding Stays
  used_scopes_stay before after log h =
      let known = subst (λ e. Stays (contents before) nothing_met (having contents e)) h.rebuilt
      (every_block_stays before nothing_met) in
      (ap (λ it. it.blocks) known.2, known.1, ap (λ it. it.returns) known.2)

  -- a fault names the scope of one of the scope blocks, and that is outside the table
  pub names_a_scope_block : (before : ReactiveBlock) (fault : Fault) → IsFirstScopeOutside env before fault
      → (block : ScopeBlock) × Contains (scope_blocks before) block × IsBlockOutside env fault block
  unfolding Stays
  names_a_scope_block before fault h = subst (λ e. Stays (contents before) nothing_met (having contents e)) h
      (every_block_stays before nothing_met)
