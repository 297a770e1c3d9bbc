-- When a scope joins the head of the group before it, and how the head grows by it.
use Rattle.std.specs.Prelude.{Bool, true, false, List, [], ◌∷◌, ◌++◌, Option, None, Some, map, not, nat_lt, ◌&&◌, ◌||◌}
use Rattle.std.specs.Prelude.{if◌then◌else◌}
use Rattle.std.specs.List.{filter, list_all, list_any}
use Rattle.std.specs.Option.{option_map_or}
use Rattle.rc_hir.specs.Environment.{declaration_of, type_of}
use Rattle.rc_hir.specs.Types.{is_always_invalidating_type}
use Rattle.rc_hir.specs.Model.{DeclarationEntry, Environment, ReactiveScope, ReactiveScopeDependency}
use Rattle.rc_names.specs.Numbers.{DeclarationId, EvaluationOrder, IdentifierId, is_among, same_id}
use Rattle.rc_merge.specs.Inputs.{as_inputs, inputs_of, same_inputs}
use Rattle.rc_merge.specs.LastUses.{LastUses}
use Rattle.rc_merge.specs.Places.{Copy, Loads, Stores, NumberedScope}

-- the list has no entry
abbrev pub is_empty : {X : Type 0} → List X → Bool
is_empty [] = true
is_empty (x ∷ xs) = false

-- the option has a value
abbrev pub is_there : {X : Type 0} → Option X → Bool
is_there None = false
is_there (Some x) = true

-- which name each name copies
abbrev pub Copies : Type 0
Copies = DeclarationId → Option DeclarationId

abbrev pub no_copies : Copies
no_copies name = None

abbrev pub with_copy_of : Copies → DeclarationId → DeclarationId → Copies
with_copy_of copies to from name = if same_id name to then Some from else copies name

-- a store of a copy copies the source of that copy
abbrev pub with_copy : Copies → Option Copy → Copies
with_copy copies None = copies
with_copy copies (Some (Loads to from)) = with_copy_of copies to from
with_copy copies (Some (Stores to from)) = with_copy_of copies to (option_map_or (λ name. name) (copies from) from)

-- the last use is below the id; a name without a use doesn't hinder a merge
abbrev pub is_used_below : EvaluationOrder → Option EvaluationOrder → Bool
is_used_below end None = true
is_used_below end (Some last) = nat_lt last.0 end.0

-- the last use is at the id or after it; a name without a use stays declared
abbrev pub is_used_from : EvaluationOrder → Option EvaluationOrder → Bool
is_used_from end None = true
is_used_from end (Some last) = not (nat_lt last.0 end.0)

-- each of these names has its last use below the id
abbrev pub are_used_below : LastUses → EvaluationOrder → List DeclarationId → Bool
are_used_below uses end = list_all (λ name. is_used_below end (uses name))

abbrev pub later : EvaluationOrder → EvaluationOrder → EvaluationOrder
later a b = if nat_lt a.0 b.0 then b else a

-- adds a declaration under its key: it replaces the first one with that key, or comes last
abbrev pub put_declaration : List DeclarationEntry → DeclarationEntry → List DeclarationEntry
put_declaration [] entry = entry ∷ []
put_declaration (first ∷ rest) entry =
    if same_id first.key entry.key then entry ∷ rest else first ∷ put_declaration rest entry

abbrev pub put_declarations : List DeclarationEntry → List DeclarationEntry → List DeclarationEntry
put_declarations entries [] = entries
put_declarations entries (entry ∷ more) = put_declarations (put_declaration entries entry) more

module _ (env : Environment) where
  -- the name that an entry declares
  abbrev pub declared_name : DeclarationEntry → DeclarationId
  declared_name entry = declaration_of env entry.value.identifier

  -- each time that the value is computed it is a new one
  abbrev pub always_invalidates : IdentifierId → Bool
  always_invalidates name = option_map_or is_always_invalidating_type (type_of env name) false

  abbrev pub declares_invalidating : DeclarationEntry → Bool
  declares_invalidating entry = always_invalidates entry.value.identifier

  -- a scope may begin a group if it never recomputes, or if a value that it declares changes whenever it recomputes
  abbrev pub begins : ReactiveScope → Bool
  begins scope = is_empty scope.dependencies || list_any declares_invalidating scope.declarations

  -- the entries declare the name
  abbrev pub declares : List DeclarationEntry → DeclarationId → Bool
  declares entries name = is_among (map declared_name entries) name

  -- the source of a copy, if the entries declare it
  abbrev pub declared_copy : List DeclarationEntry → Option DeclarationId → Option DeclarationId
  declared_copy entries None = None
  declared_copy entries (Some from) = if declares entries from then Some from else None

  -- the declared name from which this name has its value: itself, or the source that it copies
  abbrev pub source_of : Copies → List DeclarationEntry → DeclarationId → Option DeclarationId
  source_of copies entries name =
      if declares entries name then Some name else declared_copy entries (copies name)

  -- the dependency is on a whole value of one of these entries, and that value is new each time that it is computed
  abbrev pub is_from : Copies → List DeclarationEntry → ReactiveScopeDependency → Bool
  is_from copies entries dependency = is_empty dependency.path && (always_invalidates dependency.identifier
      && is_there (source_of copies entries (declaration_of env dependency.identifier)))

  -- there is a dependency, and each is on such a value of these entries
  abbrev pub are_from : Copies → List DeclarationEntry → List ReactiveScopeDependency → Bool
  are_from copies entries dependencies =
      not (is_empty dependencies) && list_all (is_from copies entries) dependencies

  -- the first condition: the next scope has the inputs of the head
  abbrev pub shares_inputs : ReactiveScope → ReactiveScope → Bool
  shares_inputs head next = same_inputs (inputs_of env head.dependencies) (inputs_of env next.dependencies)

  -- the second condition: its inputs are the values that the head declares
  abbrev pub takes_outputs : ReactiveScope → ReactiveScope → Bool
  takes_outputs head next = same_inputs (as_inputs env head.declarations) (inputs_of env next.dependencies)

  -- the third condition: each of its dependencies is on a value that the head declares and that is always new
  abbrev pub depends_on_outputs : Copies → ReactiveScope → ReactiveScope → Bool
  depends_on_outputs copies head next = are_from copies head.declarations next.dependencies

  -- one of the three conditions holds, so that the next scope recomputes only where the head does
  abbrev pub invalidates_with : Copies → ReactiveScope → ReactiveScope → Bool
  invalidates_with copies head next =
      shares_inputs head next || (takes_outputs head next || depends_on_outputs copies head next)

  -- neither scope reassigns a name
  abbrev pub reassign_nothing : ReactiveScope → ReactiveScope → Bool
  reassign_nothing head next = is_empty head.reassignments && is_empty next.reassignments

  -- the next scope joins the head; the rows between them write these names
  abbrev pub joins : LastUses → Copies → ReactiveScope → List DeclarationId → ReactiveScope → Bool
  joins uses copies head names next = reassign_nothing head next
      && (invalidates_with copies head next && are_used_below uses next.range.end names)

  -- the name that the entry declares is still used at an id or after it
  abbrev pub is_still_used : LastUses → EvaluationOrder → DeclarationEntry → Bool
  is_still_used uses end entry = is_used_from end (uses (declared_name entry))

  -- the declarations of a head with those of the next scope added, without those whose last use is below the new end
  abbrev pub grown_declarations : LastUses → EvaluationOrder → List DeclarationEntry → List DeclarationEntry
      → List DeclarationEntry
  grown_declarations uses end entries more = filter (is_still_used uses end) (put_declarations entries more)

  abbrev pub grown_end : ReactiveScope → ReactiveScope → EvaluationOrder
  grown_end head next = later head.range.end next.range.end

  -- the head with the next scope in it
  abbrev pub grown : LastUses → NumberedScope → NumberedScope → NumberedScope
  grown uses head next = record {
    number = head.number;
    own = record head.own {
      range = record { start = head.own.range.start; end = grown_end head.own next.own };
      declarations = grown_declarations uses (grown_end head.own next.own) head.own.declarations next.own.declarations;
      merged = head.own.merged ++ next.number ∷ [];
    };
  }
