-- The scopes of a declaration are changed in their place.
use Rattle.std.proofs.Common.{◌∙◌, ap, sym}
use Rattle.std.specs.Map.{set_value}
use Rattle.rc_escape.proofs.StoresLemmas.{further_store}
use Rattle.rc_names.specs.Numbers.{same_id}
use Rattle.rc_escape.proofs.not_escaping.met.put_scope.Goals as goal

pub returns-in_ok-insert-in-Some : goal.returns-in_ok-insert-in-Some
returns-in_ok-insert-in-Some c =
    c.get_mut.follows.holds _
    ∙ ap (set_value (same_id c.args.store.declaration) c.args.stored.now) c.in_ok-insert-in-Some.ensures.keys
    ∙ further_store c.args.store c.args.stored.now c.in-Some.scopes.now c.in-Some.ensures.value

pub returns-in-None : goal.returns-in-None
returns-in-None c = (c.get_mut.follows.holds-at-none, sym c.in-None.ensures.value)
