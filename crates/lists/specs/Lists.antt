-- Number 8 (document 01, 'The MUD rules'): "policies, lists, types, names".
use Rattle.std.specs.Prelude.{ℕ, List, [], ◌∷◌, ◌++◌, Bool, true, not, ◌&&◌, cond, Option}
use Rattle.text.specs.Ascii.{ascii}
use Rattle.text.specs.Words.{same_bytes}
use Rattle.flows.specs.declared.Direction.{Direction}
use Rattle.flows.specs.declared.Direction.TheVariants.{FromDevice, ToDevice}
use Rattle.values.specs.Tree.{Json, Elements, no_more, element, items, lookup, is_array, is_object}
use Rattle.values.specs.Rules.{must, may, inside, under, bytes_in, text, all, first_with}
use Rattle.header.specs.Asked.{is_among, obeys}
use Rattle.header.specs.declared.asked.Asked.TheVariants.{Text}

-- ## names
-- "objects with a string `name`": nothing but an object has members
unfoldable pub has_string_name : Json → Bool
has_string_name j = must (lookup (ascii "name") j) (obeys Text)

unfoldable pub is_named : List ℕ → Json → Bool
is_named name j = must (lookup (ascii "name") j) (text (λ b. same_bytes b name))

abbrev pub name_of : Json → List ℕ
name_of j = bytes_in (lookup (ascii "name") j)

unfoldable pub names_of : Elements → List (List ℕ)
names_of no_more = []
names_of (element j es) = name_of j ∷ names_of es

-- "no name twice", "all names different"
unfoldable pub all_different : List (List ℕ) → Bool
all_different [] = true
all_different (n ∷ ns) = not (is_among n ns) && all_different ns

-- "array of objects with a string `name`, no name twice"
unfoldable pub named_array : Json → Bool
named_array j = is_array j && (all has_string_name (items j) && all_different (names_of (items j)))

-- `outer` (object), then `inner` (a named array), "either absent means none"
unfoldable pub inner_ok : List ℕ → Json → Bool
inner_ok inner o = is_object o && may (lookup inner o) named_array

unfoldable pub nested_ok : List ℕ → List ℕ → Json → Bool
nested_ok outer inner j = may (lookup outer j) (inner_ok inner)

unfoldable pub nested : List ℕ → List ℕ → Json → Elements
nested outer inner j = inside (under inner (lookup outer j)) items no_more

-- ## policies
unfoldable pub policy_name : Direction → List ℕ
policy_name FromDevice = ascii "from-device-policy"
policy_name ToDevice = ascii "to-device-policy"

-- "Each is an object; in it `access-lists` (object), then `access-list` (array ..); either absent means none."
unfoldable pub policy_shape : Json → Bool
policy_shape p = is_object p && nested_ok (ascii "access-lists") (ascii "access-list") p

unfoldable pub policy_ok : Direction → Json → Bool
policy_ok d mud = may (lookup (policy_name d) mud) policy_shape

-- the elements of a policy's array: each names a list
unfoldable pub policy_lists : Direction → Json → Elements
policy_lists d mud = inside (lookup (policy_name d) mud) (nested (ascii "access-lists") (ascii "access-list")) no_more

-- ## lists
-- "In the outermost object `ietf-access-control-list:acls`, if present, is an object; its `acl`, if present, is an array of objects, each with
-- a string `name`, all names different."
unfoldable pub lists_ok : Json → Bool
lists_ok file = nested_ok (ascii "ietf-access-control-list:acls") (ascii "acl") file

unfoldable pub lists_of : Json → Elements
lists_of file = nested (ascii "ietf-access-control-list:acls") (ascii "acl") file

-- "A named list has `type` `ipv4-acl-type` or `ipv6-acl-type`, without a module prefix."
unfoldable pub has_type : List ℕ → Json → Bool
has_type type list = must (lookup (ascii "type") list) (text (λ b. same_bytes b type))

abbrev pub is_ipv4 : Json → Bool
is_ipv4 list = has_type (ascii "ipv4-acl-type") list

-- "An IPv6 list adds nothing and is read no further .. In an IPv4 list `aces` (object) and in it `ace` (array of objects, each with a string
-- `name`, no name twice) may be absent: no entries."
unfoldable pub list_ok : Json → Bool
list_ok list = cond (is_ipv4 list) (nested_ok (ascii "aces") (ascii "ace") list) (has_type (ascii "ipv6-acl-type") list)

-- "Every named list exists."
unfoldable pub list_named : Elements → Json → Option Json
list_named lists n = first_with (is_named (name_of n)) lists

unfoldable pub named_ok : Elements → Json → Bool
named_ok lists n = must (list_named lists n) list_ok

unfoldable pub direction_ok : Direction → Json → Json → Bool
direction_ok d file mud = policy_ok d mud && all (named_ok (lists_of file)) (policy_lists d mud)

unfoldable pub both_ok : Json → Json → Bool
both_ok file mud = direction_ok FromDevice file mud && direction_ok ToDevice file mud

unfoldable pub policies_ok : Json → Bool
policies_ok file = lists_ok file && must (lookup (ascii "ietf-mud:mud") file) (both_ok file)

-- ## the entries that are read
abbrev pub to_list : Elements → List Json
to_list no_more = []
to_list (element j es) = j ∷ to_list es

unfoldable pub list_entries : Json → List Json
list_entries list = cond (is_ipv4 list) (to_list (nested (ascii "aces") (ascii "ace") list)) []

abbrev pub entries_in : Option Json → List Json
entries_in m = inside m list_entries []

-- "lists in the order the policy names them"
unfoldable pub entries_named : Elements → Elements → List Json
entries_named lists no_more = []
entries_named lists (element n ns) =
    entries_in (list_named lists n) ++ entries_named lists ns

unfoldable pub entries_of : Direction → Json → List Json
entries_of d file = inside (lookup (ascii "ietf-mud:mud") file) (λ mud. entries_named (lists_of file) (policy_lists d mud)) []
