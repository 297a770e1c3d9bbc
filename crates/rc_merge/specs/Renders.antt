-- Renders: which scopes recompute, given the inputs that changed since the last render; and which renders are legal for
-- a tree.
use Rattle.std.specs.Prelude.{◌≡◌, ◌≤◌, ℕ, List, Contains, count_by}
use Rattle.rc_hir.specs.Model.{DeclarationEntry, Environment}
use Rattle.rc_names.specs.Numbers.{DeclarationId, ScopeId, is_among}
use Rattle.rc_merge.specs.Inputs.{Input, inputs_of}
use Rattle.rc_merge.specs.Joining.{declared_name}
use Rattle.rc_merge.specs.Places.{Copy, Loads, Stores, scope_at}
use Rattle.rc_merge.specs.Writes.{Written, copies_in, written_in}
use Rattle.rc_tree.specs.ScopesIn.{scopes_in}
use Rattle.rc_tree.specs.Model.{ReactiveBlock}

-- a render, by what changed since the one before it
abbrev pub Render : Type 0
Render = List Input

-- a name changes where its value does, or a part of it
pub record Changes (render : Render) (name : DeclarationId) : Type 0 where
  pub input : Input
  pub changed : Contains render input
  pub is_of : input.declaration ≡ name

abbrev pub copied_name : Copy → DeclarationId
copied_name (Loads to from) = to
copied_name (Stores to from) = to

abbrev pub source_name : Copy → DeclarationId
source_name (Loads to from) = from
source_name (Stores to from) = from

module _ (env : Environment) where
  -- a scope recomputes where one of its inputs changes
  pub record Recomputes (render : Render) (scope : ScopeId) : Type 0 where
    pub input : Input
    pub changed : Contains render input
    pub needed : Contains (inputs_of env (scope_at env.scopes scope).own.dependencies) input

  -- how many rows of a tree write the name
  abbrev pub writers : ReactiveBlock → DeclarationId → ℕ
  writers body name = count_by (λ (written : Written). is_among written name) (written_in env body)

  -- a legal render: a value that a scope declares changes only if each scope block that declares it recomputes, and a
  -- copy that only one row writes changes only where what it copies does
  pub record IsLegal (body : ReactiveBlock) (render : Render) : Type 0 where
    pub outputs : (scope : ScopeId) (entry : DeclarationEntry) → Contains (scopes_in body) scope
        → Contains (scope_at env.scopes scope).own.declarations entry
        → Changes render (declared_name env entry) → Recomputes render scope
    pub copies : (copy : Copy) → Contains (copies_in env body) copy → writers body (copied_name copy) ≤ 1
        → Changes render (copied_name copy) → Changes render (source_name copy)

  -- no copied name is written by two rows
  abbrev pub HasCopiesOnce : ReactiveBlock → Type 0
  HasCopiesOnce body = (copy : Copy) → Contains (copies_in env body) copy → writers body (copied_name copy) ≤ 1
