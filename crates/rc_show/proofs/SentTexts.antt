-- The text and the JSON value that a printing form's events give.
use Rattle.std.proofs.Common.{◌≡◌, ℕ, ◌^◌, List, [], ◌∷◌, ◌++◌, Bool, true, false, ◌&&◌, nat_lt, Some, refl, sym, ap}
use Rattle.std.proofs.Common.{◌∙◌, subst, arith, append_assoc, append-nil, inl, inr}
use Rattle.std.proofs.lemmas.Grind.{common_steps}
use Rattle.std.proofs.lemmas.Bool.{and_parts}
use Rattle.std.proofs.lemmas.Bool.Decides.{nat_tests}
use Rattle.std.specs.Coded.{Coded-set, coded_bool}
use mathlib.Core.Logic.{∥∥₁_elim}
use Rattle.json.specs.Token as json
use Rattle.json.specs.Token.{Token, tokens_code}
use Rattle.json.specs.Lex.{tokens}
use Rattle.json.specs.Print.{print}
use Rattle.json.specs.Tree.{json_tokens, items_tokens, members_tokens}
use Rattle.serde.specs.Event as event
use Rattle.serde.specs.Event.{Event, Log}
use Rattle.serde.specs.declared.name.NameKind.TheVariants.{Field}
use Rattle.serde.proofs.Spellings.{spelled-AsIs}
use Rattle.serde_json.specs.Data.{unsigned, negative, float, Data, null, boolean, number, string, array, object}
use Rattle.serde_json.specs.Data.{Items, no_items, item, Members, no_members, member}
use Rattle.serde_json.specs.Sent.{State, start, Takes, TakesAll, AreTokensOf, IsTextOf}
use Rattle.serde_json.specs.Written.{outline, items_outline, members_outline, compact_text}
use Rattle.serde_json.proofs.Texts.{print-outline}
use Rattle.serde_json.specs.Read.{read}
use Rattle.serde_json.proofs.FreeTexts.{tokens_by}
use Rattle.rc_show.specs.Sending.{Sends, events_of, items_events, fields_events}
use Rattle.rc_show.specs.Showing.{add}
use Rattle.rc_show.specs.inside.Plain.{is_plain, items_plain, fields_plain}
use Rattle.rc_show.proofs.PlainValues.{are_small, items_small, fields_small, fields_parts, read_back}

-- no key is due, and nothing is flattened
abbrev IsPlain : Bool → State → Type 0
IsPlain narrow s = (s.at_key ≡ false) × (s.flattens ≡ false) × (s.flat ≡ []) × (s.narrow ≡ narrow)

abbrev Added : Bool → State → List Token → State → Type 0
Added narrow old ts new = IsPlain narrow new × (new.tokens ≡ old.tokens ++ ts)

-- after these tokens the rest is taken, and if numbers are those of a `Value`, then this holds
abbrev Leads : Bool → State → List Token → List Event → State → Bool → Type 0
Leads narrow old ts rest last small = (mid : State) × Added narrow old ts mid × TakesAll mid rest last
    × (narrow ≡ true → small ≡ true)

both : (narrow a b : Bool) → (narrow ≡ true → a ≡ true) → (narrow ≡ true → b ≡ true) → narrow ≡ true → (a && b) ≡ true
both narrow a b h k e = rw (h e, k e) refl

number_added : (narrow : Bool) (n : ℕ) (s mid : State) → IsPlain narrow s → Takes s (event.unsigned n) mid
    → Added narrow s (json_tokens (outline (number (unsigned n)))) mid
number_added narrow n s mid plain step = grind (arith, common_steps)

number_small : (narrow : Bool) (n : ℕ) (s mid : State) → IsPlain narrow s → Takes s (event.unsigned n) mid
    → narrow ≡ true → nat_lt n (2 ^ 64) ≡ true
number_small narrow n s mid plain step e = grind (arith, nat_tests, common_steps)

map_ended : (narrow : Bool) (s mid : State) → IsPlain narrow s → Takes s event.map_ends mid
    → Added narrow s (json.end_object ∷ []) mid
map_ended narrow s mid plain step = elim step [
  | inl flat ↦ absurd (grind (arith, common_steps, flat.1, plain.2))
  | inr braced ↦ grind (arith, common_steps, braced.1)
]

after : (narrow : Bool) (s mid : State) (ts us : List Token) (rest : List Event) (last : State) (small : Bool)
    → Added narrow s ts mid
    → Leads narrow mid us rest last small → Leads narrow s (ts ++ us) rest last small
after narrow s mid ts us rest last small first more =
    (more.0, (more.1.0, more.1.1 ∙ ap (λ xs. xs ++ us) first.1 ∙ append_assoc s.tokens ts us), more.2, more.3)

mutual
  value_leads : (narrow : Bool) (d : Data) (rest : List Event) (s last : State) → is_plain d ≡ true → IsPlain narrow s
      → TakesAll s (events_of d ++ rest) last → Leads narrow s (json_tokens (outline d)) rest last (are_small d)
  value_leads narrow null rest s last whole plain run =
      (run.0, grind (arith, common_steps, run.1.1), run.2, λ e. refl)
  value_leads narrow (boolean b) rest s last whole plain run =
      (run.0, grind (arith, common_steps, run.1.1), run.2, λ e. refl)
  value_leads narrow (number (unsigned n)) rest s last whole plain run =
      (run.0, number_added narrow n s run.0 plain run.1, run.2, number_small narrow n s run.0 plain run.1)
  value_leads narrow (number (negative z)) rest s last whole plain run = cc
  value_leads narrow (number (float x)) rest s last whole plain run = cc
  value_leads narrow (string t) rest s last whole plain run =
      (run.0, grind (arith, common_steps, run.1.1), run.2, λ e. refl)
  value_leads narrow (array ds) rest s last whole plain run =
      let opened : Added narrow s (json.begin_array ∷ []) run.0 = grind (arith, common_steps, run.1.1.1) in
      let more : TakesAll run.0 (items_events ds ++ (event.seq_ends ∷ rest)) last =
      subst (λ es. TakesAll run.0 es last) (append_assoc (items_events ds) _ rest) run.2 in
      after narrow s run.0 (json.begin_array ∷ []) _ rest last _ opened
      (items_lead narrow ds rest run.0 last whole opened.0 more)
  value_leads narrow (object ms) rest s last whole plain run =
      let opened : Added narrow s (json.begin_object ∷ []) run.0 = grind (arith, common_steps, run.1.1) in
      let more : TakesAll run.0 (fields_events ms ++ (event.map_ends ∷ rest)) last =
      subst (λ es. TakesAll run.0 es last) (append_assoc (fields_events ms) _ rest) run.2 in
      after narrow s run.0 (json.begin_object ∷ []) _ rest last _ opened
      (fields_lead narrow no_members ms rest run.0 last whole opened.0 more)

  items_lead : (narrow : Bool) (ds : Items) (rest : List Event) (s last : State) → items_plain ds ≡ true
      → IsPlain narrow s
      → TakesAll s (items_events ds ++ (event.seq_ends ∷ rest)) last
      → Leads narrow s (items_tokens (items_outline ds)) rest last (items_small ds)
  items_lead narrow no_items rest s last whole plain run = (run.0, grind (arith, common_steps, run.1), run.2, λ e. refl)
  items_lead narrow (item d ds) rest s last whole plain run =
      let parts = and_parts (is_plain d) _ whole in
      let first = value_leads narrow d (items_events ds ++ (event.seq_ends ∷ rest)) s last parts.0 plain
      (subst (λ es. TakesAll s es last) (append_assoc (events_of d) (items_events ds) _) run) in
      let more = items_lead narrow ds rest first.0 last parts.1 first.1.0 first.2 in
      let joined = after narrow s first.0 _ _ rest last _ first.1 more in
      (joined.0, joined.1, joined.2, both narrow _ _ first.3 more.3)

  fields_lead : (narrow : Bool) (found ms : Members) (rest : List Event) (s last : State)
      → fields_plain found ms ≡ true → IsPlain narrow s
      → TakesAll s (fields_events ms ++ (event.map_ends ∷ rest)) last
      → Leads narrow s (members_tokens (members_outline ms)) rest last (fields_small ms)
  fields_lead narrow found no_members rest s last whole plain run =
      (run.0, map_ended narrow s run.0 plain run.1, run.2, λ e. refl)
  fields_lead narrow found (member k d ms) rest s last whole plain run =
      let parts = fields_parts found k d ms whole in
      let named : Added narrow s (json.key k ∷ []) run.0 = grind (arith, common_steps, run.1, spelled-AsIs Field k) in
      let first = value_leads narrow d (fields_events ms ++ (event.map_ends ∷ rest)) run.0 last parts.0 named.0
      (subst (λ es. TakesAll run.0 es last) (append_assoc (events_of d) (fields_events ms) _) run.2) in
      let more = fields_lead narrow (add k d found) ms rest first.0 last parts.2 first.1.0 first.2 in
      let joined = after narrow s run.0 (json.key k ∷ []) _ rest last _ named
      (after narrow run.0 first.0 _ _ rest last _ first.1 more) in
      (joined.0, joined.1, joined.2, both narrow _ _ first.3 more.3)

-- the tokens of the events that were sent
pub tokens_of_sent : (narrow : Bool) (d : Data) (log : Log) (ts : List Token) → is_plain d ≡ true
    → Sends d (Some []) log
    → AreTokensOf narrow log ts → ts ≡ json_tokens (outline d)
unfolding Sends
tokens_of_sent narrow d log ts whole sent h = tokens_by narrow (events_of d) log ts _ sent h (λ s run.
    let led = value_leads narrow d [] (start narrow) s whole (refl, refl, refl, refl)
    (subst (λ es. TakesAll (start narrow) es s) (sym (append-nil (events_of d))) run) in
    ap (λ x. x.tokens) led.2 ∙ led.1.1)

pub text_of_sent : (d : Data) (log : Log) (text : List ℕ) → is_plain d ≡ true → Sends d (Some []) log
    → IsTextOf log text → text ≡ compact_text d
text_of_sent d log text whole sent h =
    h.1 ∙ ap print (tokens_of_sent false d log (tokens text) whole sent h.0) ∙ print-outline d

small_when_sent : (d : Data) (log : Log) (ts : List Token) → is_plain d ≡ true → Sends d (Some []) log
    → AreTokensOf true log ts → are_small d ≡ true
unfolding Sends
small_when_sent d log ts whole sent h =
    let ran = subst (λ l. AreTokensOf true l ts) sent h in
    ∥∥₁_elim ran.1 (Coded-set coded_bool (are_small d) true) (λ run.
    (value_leads true d [] (start true) ran.0 whole (refl, refl, refl, refl)
    (subst (λ es. TakesAll (start true) es ran.0) (sym (append-nil (events_of d))) run)).3 refl)

pub value_of_sent : (d e : Data) (log : Log) (text : List ℕ) → is_plain d ≡ true → Sends d (Some []) log
    → AreTokensOf true log (tokens text) → read text ≡ Some e → e ≡ d
value_of_sent d e log text whole sent h again =
    read_back d e text whole (small_when_sent d log (tokens text) whole sent h)
    (tokens_of_sent true d log (tokens text) whole sent h) again
