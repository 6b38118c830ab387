-- Which addresses a name stands for (document 01, 'Site table').
use Rattle.std.specs.Prelude.{ℕ, List, [], ◌∷◌, Bool, true, false, ◌&&◌, ◌||◌, eqb}
use Rattle.flows.specs.Table.{in_range}
use Rattle.site.specs.Url.{authority_of, same_host, same_authority, same_name}
use Rattle.site.specs.Line.{part}
use Rattle.site.specs.Site.{lines}
use Rattle.site.specs.declared.lines.Kind.{Kind}
use Rattle.site.specs.declared.lines.Kind.TheVariants.{Host, Class, Mine, Local, Thing}
use Rattle.site.specs.declared.lines.SiteLine.{SiteLine}

-- a number for each kind, by which kinds are told apart
abbrev pub kind_number : Kind → ℕ
kind_number Host = 1
kind_number Class = 2
kind_number Mine = 3
kind_number Local = 4
kind_number Thing = 5

abbrev pub name_in : List ℕ → SiteLine → List ℕ
name_in site l = part l.name l.end site

-- a line of that kind, whose name passes the test
unfoldable pub names : Kind → (List ℕ → Bool) → List ℕ → SiteLine → Bool
names kind test site l = eqb (kind_number l.kind) (kind_number kind) && test (name_in site l)

-- the address stands in the network of one of the lines that are named: "A name without site lines stands for no address."
unfoldable pub in_named : (SiteLine → Bool) → List SiteLine → ℕ → Bool
in_named named [] a = false
in_named named (l ∷ ls) a = (named l && in_range l.low l.high a) || in_named named ls a

abbrev pub stands_for : Kind → (List ℕ → Bool) → List ℕ → ℕ → Bool
stands_for kind test site a = in_named (names kind test site) (lines site 0) a

-- "src-dnsname, dst-dnsname"
abbrev pub is_host : List ℕ → List ℕ → ℕ → Bool
is_host site name a = stands_for Host (λ n. same_host n name) site a

-- "controller, defaults"
abbrev pub is_class : List ℕ → List ℕ → ℕ → Bool
is_class site name a = stands_for Class (λ n. same_name n name) site a

-- "my-controller of that URL"
abbrev pub is_mine : List ℕ → List ℕ → ℕ → Bool
is_mine site url a = stands_for Mine (λ n. same_name n url) site a

-- "local-networks"
abbrev pub is_local : List ℕ → ℕ → Bool
is_local site a = stands_for Local (λ n. true) site a

-- "`manufacturer` compares its string with the authority of each `thing`"
abbrev pub is_made_by : List ℕ → List ℕ → ℕ → Bool
is_made_by site authority a = stands_for Thing (λ n. same_authority (authority_of n) authority) site a

-- "`model` the whole URL"
abbrev pub is_model : List ℕ → List ℕ → ℕ → Bool
is_model site url a = stands_for Thing (λ n. same_name n url) site a
