-- The entries that an early return adds to the environment: five identifiers with their types, a block, and the entries
-- of its scope.
use Rattle.std.specs.Prelude.{◌+◌, ◌*◌, ◌^◌, ℕ, Bool, List, [], ◌∷◌, ◌++◌, Option, None, Some, codes, decimal}
use Rattle.std.specs.Prelude.{length, nat_lt, slice_get, slice_set, ◌&&◌, option_map}
use Rattle.rc_early.specs.declared.early_return.EarlyReturn.{EarlyReturn}
use Rattle.rc_hir.specs.Environment.{unnamed, with_identifier, with_type}
use Rattle.rc_hir.specs.Model.{Environment, Identifier, ReactiveScope, ReactiveScopeEarlyReturn}
use Rattle.rc_hir.specs.declared.environment.IdentifierName.TheVariants.{Promoted}
use Rattle.rc_names.specs.Numbers.{ScopeId, to_id}
use Rattle.rc_names.specs.declared.span.Span.{Span}

-- enough numbers are left for that many early returns: five identifiers, five types and a block for each
abbrev pub has_room : Environment → ℕ → Bool
has_room env count = nat_lt (length env.identifiers + 5 * count) (2 ^ 32)
    && (nat_lt (length env.types + 5 * count) (2 ^ 32) && nat_lt (env.next_block + count) (2 ^ 32))

-- the entry of the next early return, after that many: its variable and its label have the next numbers
abbrev pub next_entry : Environment → ℕ → Option Span → ReactiveScopeEarlyReturn
next_entry env count span = record {
  value = to_id (length env.identifiers + 5 * count);
  span = span;
  label = to_id (env.next_block + count);
}

-- the identifier with a name that no source has, made of its declaration's number
abbrev pub promoted : Identifier → Identifier
promoted identifier =
    record identifier { name = Some (Promoted (codes "#t" ++ decimal identifier.declaration_id.0)) }

-- the environment with one more identifier, which has such a name
abbrev pub with_variable : Option Span → Environment → Environment
with_variable span env = record (with_type env)
    { identifiers = env.identifiers ++ promoted (unnamed (length env.identifiers) (length env.types) span) ∷ [] }

-- and with four more, for the sentinel, `Symbol`, its `for`, and the argument
abbrev pub with_temporaries : Option Span → Environment → Environment
with_temporaries span env =
    with_identifier span (with_identifier span (with_identifier span (with_identifier span env)))

-- the environment where the number of the next block is taken
abbrev pub with_block : Environment → Environment
with_block env = record env { next_block = env.next_block + 1 }

-- the scope with that early return, whose variable it declares
abbrev pub returning : ScopeId → ReactiveScopeEarlyReturn → ReactiveScope → ReactiveScope
returning number entry scope = record scope {
  early_return_value = Some entry;
  declarations = scope.declarations
      ++ record { key = entry.value; value = record { identifier = entry.value; scope = number } } ∷ [];
}

-- the list with another element at an index, if there is one to put there
abbrev pub set_if : {X : Type 0} → List X → ℕ → Option X → List X
set_if xs index None = xs
set_if xs index (Some x) = slice_set xs index x

-- the scopes where the one of that early return has it
abbrev pub with_entry : EarlyReturn → List ReactiveScope → List ReactiveScope
with_entry early scopes =
    set_if scopes early.scope.0 (option_map (returning early.scope early.entry) (slice_get scopes early.scope.0))

-- the environment with all entries of an early return
abbrev pub with_early_return : EarlyReturn → Environment → Environment
with_early_return early env =
    record (with_block (with_temporaries early.entry.span (with_variable early.entry.span env)))
    { scopes = with_entry early env.scopes }

-- the environment with the entries of all these, one after the other
abbrev pub with_early_returns : List EarlyReturn → Environment → Environment
with_early_returns [] env = env
with_early_returns (early ∷ rest) env = with_early_returns rest (with_early_return early env)
