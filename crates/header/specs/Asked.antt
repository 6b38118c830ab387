-- What the rules ask of the value of a member (document 01, 'The MUD rules').
use Rattle.std.specs.Prelude.{ℕ, List, [], ◌∷◌, Bool, false, ◌&&◌, ◌||◌, cond, length, eqb, Option, None, Some}
use Rattle.text.specs.Ascii.{ascii}
use Rattle.text.specs.Words.{same_bytes}
use Rattle.text.specs.Networks.{network_at}
use Rattle.text.specs.declared.networks.Net.{Net}
use Rattle.site.specs.Url.{is_mud_url}
use Rattle.values.specs.Tree.{Json, Elements, no_more, element, items, is_null, is_string, is_bool, count_of}
use Rattle.values.specs.Rules.{within, text}
use Rattle.header.specs.declared.asked.Form.{Form}
use Rattle.header.specs.declared.asked.Form.TheVariants.{Url, Network, Forwarding, Operator, Initiator}
use Rattle.header.specs.declared.asked.Asked.{Asked}
use Rattle.header.specs.declared.asked.Asked.TheVariants.{Text, Boolean, Nulls, Integer, Spelt, Nothing}

-- one of these words
unfoldable pub is_among : List ℕ → List (List ℕ) → Bool
is_among b [] = false
is_among b (w ∷ ws) = same_bytes b w || is_among b ws

-- `[null]`
abbrev pub one_null : Elements → Bool
one_null no_more = false
one_null (element j no_more) = is_null j
one_null (element j (element k es)) = false

abbrev pub is_null_array : Json → Bool
is_null_array j = one_null (items j)

-- a network with its length ("here `/n` is required"), and nothing after it
abbrev pub whole_net : List ℕ → Option (Net × ℕ) → Bool
whole_net b None = false
whole_net b (Some (net, after)) = net.given && eqb after (length b)

unfoldable pub is_network : List ℕ → Bool
is_network b = whole_net b (network_at b 0)

-- that network, if it is one
unfoldable pub net_in : List ℕ → Option (Net × ℕ)
net_in b = cond (is_network b) (network_at b 0) None

-- "`accept`, `drop` or `reject`"; "`operator` `eq`, `neq`, `lte`, `gte`"; "`from-device` (opener 0) or `to-device` (opener 1)"
abbrev pub forwardings : List (List ℕ)
forwardings = ascii "accept" ∷ (ascii "drop" ∷ (ascii "reject" ∷ []))

abbrev pub operators : List (List ℕ)
operators = ascii "eq" ∷ (ascii "neq" ∷ (ascii "lte" ∷ (ascii "gte" ∷ [])))

abbrev pub initiators : List (List ℕ)
initiators = ascii "from-device" ∷ (ascii "to-device" ∷ [])

-- the form that a string is asked to have
abbrev pub spelt : Form → List ℕ → Bool
spelt Url b = is_mud_url b
spelt Network b = is_network b
spelt Forwarding b = is_among b forwardings
spelt Operator b = is_among b operators
spelt Initiator b = is_among b initiators

-- is the value what is asked for?
abbrev pub obeys : Asked → Json → Bool
obeys Text j = is_string j
obeys Boolean j = is_bool j
obeys Nulls j = is_null_array j
obeys (Integer low high) j = within low high (count_of j)
obeys (Spelt form) j = text (spelt form) j
obeys Nothing j = false
