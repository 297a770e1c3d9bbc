-- With one open group in each list the tree without its scopes stays, whatever its scope blocks are.
use Rattle.std.proofs.Common.{◌≡◌, ◌∙◌, List, [], ◌∷◌, ◌++◌, Option, None, Some, Bool, true, false, append_assoc, map, refl}
use Rattle.std.proofs.Common.{sym, ap, Ok}
use Rattle.std.proofs.lemmas.List.{append-nil, map-append}
use Rattle.rc_hir.specs.Model.{Environment}
use Rattle.rc_names.specs.Numbers.{ScopeId}
use Rattle.rc_merge.proofs.RestLemmas.{rolled_back}
use Rattle.rc_merge.specs.Joining.{begins}
use Rattle.rc_merge.specs.LastUses.{LastUses}
use Rattle.rc_merge.specs.Merged.{gives_way}
use Rattle.rc_merge.specs.Places.{scope_at}
use Rattle.rc_merge.specs.inside.ListSteps.{Going, Open, begin_if, block_of, close, closed, grown_if, join_if, joins_open}
use Rattle.rc_merge.specs.inside.ListSteps.{merged_fate}
use Rattle.rc_merge.specs.inside.ListSteps.{row_statements, starting, stay_if, step, step_passing, step_row, step_scope}
use Rattle.rc_merge.specs.inside.ListSteps.{steps, swallowed, told_open, with_fate}
use Rattle.rc_merge.specs.inside.Rows.{row_passes}
use Rattle.rc_merge.specs.inside.WentRules.{Met, gone_if, left_scope, went_rules}
use Rattle.rc_runs.proofs.EraseLemmas.{erase_kept, erase_laws, erase_measure, scope_left}
use Rattle.rc_runs.specs.Erase.{erased, erased_statements}
use Rattle.rc_tree.proofs.RebuiltKeeps.{RulesKeep}
use Rattle.rc_tree.specs.Rebuilt.{rebuilt_block}
use Rattle.rc_tree.specs.Unrolled.{UnrolledStatement}
use Rattle.rc_tree.specs.Model.{ReactiveFunction, ReactiveInstruction, ReactiveScopeBlock, ReactiveStatement}
use Rattle.rc_tree.specs.declared.statement.ReactiveStatement.{out-ReactiveStatement, roll-ReactiveStatement}
use Rattle.rc_tree.specs.declared.statement.ReactiveStatement.TheOpen as layer
use Rattle.rc_tree.specs.declared.statement.ReactiveStatement.TheVariants as reactive

module _ {L : Type 0} (m : List ReactiveStatement → L)
    (append : (xs xs1 ys ys1 : List ReactiveStatement) → m xs1 ≡ m xs → m ys1 ≡ m ys → m (xs1 ++ ys1) ≡ m (xs ++ ys))
    (flat : (block : ReactiveScopeBlock) → m (reactive.Scope block ∷ []) ≡ m block.instructions.statements)
    (env : Environment) (uses : LastUses) where
  -- what is done, with the open group
  abbrev content : Going → List ReactiveStatement
  content g = closed g.open_group g.done

  -- a statement comes after what is there
  abbrev Adds : UnrolledStatement → Going → Going → Type 0
  Adds u g after = m (content after) ≡ m (content g ++ roll-ReactiveStatement u ∷ [])

  adds : (u : UnrolledStatement) (x : ReactiveStatement) (g after : Going) → roll-ReactiveStatement u ≡ x
      → content after ≡ content g ++ x ∷ [] → Adds u g after
  adds u x g after e is = ap m (is ∙ ap (λ y. content g ++ y ∷ []) (sym e))

  passing_adds : (held : Option Open) (row : ReactiveInstruction) (g : Going)
      → closed (step_passing env uses held row (record g { open_group = held })).open_group
      (step_passing env uses held row (record g { open_group = held })).done
      ≡ closed held g.done ++ reactive.Instruction row ∷ []
  passing_adds None row g = refl
  passing_adds (Some o) row g =
      ap (λ l. g.done ++ reactive.Scope (block_of o.head.number o.inside) ∷ l)
      (map-append (λ (r : ReactiveInstruction). reactive.Instruction r) o.rows (row ∷ []))
      ∙ sym (append_assoc g.done (reactive.Scope (block_of o.head.number o.inside) ∷ row_statements o.rows)
      (reactive.Instruction row ∷ []))

  row_adds : (passes : Bool) (row : ReactiveInstruction) (g : Going)
      → Adds (layer.Instruction row) g (step_row env uses passes row g)
  row_adds true row g = adds (layer.Instruction row) (reactive.Instruction row) g
      (step_passing env uses g.open_group row g) (reactive.rolls-Instruction row) (passing_adds g.open_group row g)
  row_adds false row g = adds (layer.Instruction row) (reactive.Instruction row) g
      (step_row env uses false row g) (reactive.rolls-Instruction row) refl

  begin_adds : (opens : Bool) (block : ReactiveScopeBlock) (g : Going)
      → content (begin_if env uses opens block (record g { open_group = None })) ≡ g.done ++ reactive.Scope block ∷ []
  begin_adds true block g = refl
  begin_adds false block g = refl

  stay_adds : (opens : Bool) (g : Going) → content (stay_if env uses opens g) ≡ content g
  stay_adds true g = refl
  stay_adds false g = refl

  -- a group with more in its block, and the block after the group
  swallowed_adds : (o : Open) (block : ReactiveScopeBlock) (done : List ReactiveStatement)
      → m (closed (Some (swallowed o block)) done) ≡ m (closed (Some o) done ++ reactive.Scope block ∷ [])
  swallowed_adds o block done =
      let rows = row_statements o.rows in
      let own = reactive.Scope (block_of o.head.number o.inside) in
      append done done (own ∷ (rows ++ reactive.Scope block ∷ []))
      (reactive.Scope (block_of o.head.number ((o.inside ++ rows) ++ block.instructions.statements)) ∷ []) refl
      (flat (block_of o.head.number ((o.inside ++ rows) ++ block.instructions.statements))
      ∙ ap m (append_assoc o.inside rows block.instructions.statements)
      ∙ append (own ∷ []) o.inside (rows ++ reactive.Scope block ∷ []) (rows ++ block.instructions.statements)
      (sym (flat (block_of o.head.number o.inside)))
      (append rows rows (reactive.Scope block ∷ []) block.instructions.statements refl (sym (flat block))))
      ∙ ap m (sym (append_assoc done (own ∷ rows) (reactive.Scope block ∷ [])))

  join_adds : (joins opens : Bool) (o : Open) (block : ReactiveScopeBlock) (g : Going)
      → m (content (join_if env uses joins opens o block (record g { open_group = Some o })))
      ≡ m (closed (Some o) g.done ++ reactive.Scope block ∷ [])
  join_adds true opens o block g =
      ap m (stay_adds opens (record g {
        open_group = Some (swallowed (grown_if env uses true o (scope_at g.scopes block.scope)) block);
        log = with_fate (merged_fate block.scope o.head.number)
            (told_open env uses g.copies o (scope_at g.scopes block.scope) g.log);
      })) ∙ swallowed_adds (grown_if env uses true o (scope_at g.scopes block.scope)) block g.done
  join_adds false opens o block g = ap m (begin_adds opens block (close (record g { open_group = Some o })))

  scope_adds : (held : Option Open) (block : ReactiveScopeBlock) (g : Going)
      → m (content (step_scope env uses held block (record g { open_group = held })))
      ≡ m (closed held g.done ++ reactive.Scope block ∷ [])
  scope_adds None block g = ap m (begin_adds (begins env (scope_at g.scopes block.scope).own) block g)
  scope_adds (Some o) block g = join_adds (joins_open env uses g.copies o (scope_at g.scopes block.scope))
      (begins env (scope_at g.scopes block.scope).own) o block g

  step_adds : (u : UnrolledStatement) (g : Going) → Adds u g (step env uses g u)
  step_adds (layer.Instruction row) g = row_adds (row_passes row) row g
  step_adds (layer.Terminal x) g = refl
  step_adds (layer.PrunedScope x) g = refl
  step_adds (layer.Scope block) g =
      scope_adds g.open_group block g ∙ ap (λ y. m (content g ++ y ∷ [])) (sym (reactive.rolls-Scope block))

  steps_add : (us : List UnrolledStatement) (g : Going)
      → m (content (steps env uses g us)) ≡ m (content g ++ map roll-ReactiveStatement us)
  steps_add [] g = ap m (sym (append-nil (content g)))
  steps_add (u ∷ us) g =
      let rest = map roll-ReactiveStatement us in
      steps_add us (step env uses g u)
      ∙ append (content g ++ roll-ReactiveStatement u ∷ []) (content (step env uses g u)) rest rest (step_adds u g) refl
      ∙ ap m (append_assoc (content g) (roll-ReactiveStatement u ∷ []) rest)

  -- the list measures as before
  pub went_keeps : (xs : List ReactiveStatement) (g : Going) → g.done ≡ [] → g.open_group ≡ None
      → m (close (steps env uses g (map out-ReactiveStatement xs))).done ≡ m xs
  went_keeps xs g empty none =
      steps_add (map out-ReactiveStatement xs) g
      ∙ (λ i. m (closed (none i) (empty i) ++ map roll-ReactiveStatement (map out-ReactiveStatement xs)))
      ∙ ap m (rolled_back xs)

module _ (env : Environment) (uses : LastUses) where
  gone_erased : (gives : Bool) (parent : ScopeId) (block : ReactiveScopeBlock) (met : Met)
      → erased_statements (gone_if gives parent block met).1 ≡ erased_statements (reactive.Scope block ∷ [])
  gone_erased true parent block met = sym (scope_left block)
  gone_erased false parent block met = refl

  left_erased : (around : Option ScopeId) (block : ReactiveScopeBlock) (met : Met)
      → erased_statements (left_scope env uses around block met).1 ≡ erased_statements (reactive.Scope block ∷ [])
  left_erased None block met = refl
  left_erased (Some parent) block met = gone_erased (gives_way env uses met.scopes parent block.scope) parent block met

  keep_erased : RulesKeep erase_measure (went_rules env uses)
  keep_erased = record {
    row = λ x met. refl;
    terminal = λ x met. refl;
    pruned_scope = λ x met. refl;
    scope = λ before x met. left_erased before.around x met;
    block = λ xs met. went_keeps erased_statements erase_laws.append scope_left env uses xs
        (starting env uses met.scopes met.copies met.log) refl refl;
  }

  -- the body without its scopes stays
  pub erased_by_went : (old new : ReactiveFunction) (start ended : Met) → new ≡ record old { body = new.body }
      → rebuilt_block (went_rules env uses) old.body start ≡ Ok (ended, new.body) → erased new ≡ erased old
  erased_by_went old new start ended header is = erase_kept (went_rules env uses) keep_erased old new start ended header is
