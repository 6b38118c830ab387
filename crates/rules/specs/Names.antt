-- The names that limit the remote address, as masks over the site's lines.
use Rattle.values.specs.Tree.{Json}
use Rattle.std.specs.Prelude.{ℕ, List, [], ◌∷◌, ◌++◌, Bool, true, Option}
use Rattle.text.specs.Ascii.{ascii}
use Rattle.flows.specs.declared.Direction.{Direction}
use Rattle.site.specs.Url.{authority_of, same_host, same_authority, same_name}
use Rattle.site.specs.declared.lines.Kind.{Kind}
use Rattle.site.specs.declared.lines.Kind.TheVariants.{Host, Class, Mine, Local, Thing}
use Rattle.naming.specs.Named.{names}
use Rattle.naming.specs.Masks.{named_mask}
use Rattle.entries.specs.Sound.{remote_name}
use Rattle.values.specs.Rules.{bytes_in, under, if_there}

-- one mask where the member is there
abbrev pub mask_if : Option Json → ℕ → List ℕ
mask_if m x = if_there m (x ∷ []) []

-- the mask of the lines of a kind whose names pass a test
abbrev pub masked : Kind → (List ℕ → Bool) → List ℕ → ℕ
masked kind test site = named_mask (names kind test site) site

-- `ietf-mud:mud`: "`manufacturer` compares its string with the authority of each `thing`, `same-manufacturer` uses this file's authority, `model` the whole URL."
abbrev pub maker_mask : List ℕ → Option Json → List ℕ
maker_mask site m = mask_if m (masked Thing (λ n. same_authority (authority_of n) (bytes_in m)) site)

abbrev pub model_mask : List ℕ → Option Json → List ℕ
model_mask site m = mask_if m (masked Thing (λ n. same_name n (bytes_in m)) site)

abbrev pub controller_mask : List ℕ → Option Json → List ℕ
controller_mask site m = mask_if m (masked Class (λ n. same_name n (bytes_in m)) site)

abbrev pub kin_mask : List ℕ → List ℕ → Option Json → List ℕ
kin_mask site url m = mask_if m (masked Thing (λ n. same_authority (authority_of n) (authority_of url)) site)

abbrev pub local_mask : List ℕ → Option Json → List ℕ
local_mask site m = mask_if m (masked Local (λ n. true) site)

abbrev pub mine_mask : List ℕ → List ℕ → Option Json → List ℕ
mine_mask site url m = mask_if m (masked Mine (λ n. same_name n url) site)

abbrev pub dns_mask : List ℕ → Option Json → List ℕ
dns_mask site m = mask_if m (masked Host (λ n. same_host n (bytes_in m)) site)

unfoldable pub thing_masks : List ℕ → Option Json → List ℕ
thing_masks site mud = maker_mask site (under (ascii "manufacturer") mud) ++ model_mask site (under (ascii "model") mud)

unfoldable pub class_mask : List ℕ → Option Json → List ℕ
class_mask site mud = controller_mask site (under (ascii "controller") mud)

unfoldable pub null_masks : List ℕ → List ℕ → Option Json → List ℕ
null_masks site url mud =
    kin_mask site url (under (ascii "same-manufacturer") mud)
    ++ (local_mask site (under (ascii "local-networks") mud) ++ mine_mask site url (under (ascii "my-controller") mud))

abbrev pub mud_masks : List ℕ → List ℕ → Option Json → List ℕ
mud_masks site url mud = thing_masks site mud ++ (class_mask site mud ++ null_masks site url mud)

-- `ipv4`: a DNS name on the remote's side
unfoldable pub host_mask : Direction → List ℕ → Option Json → List ℕ
host_mask d site ipv4 = dns_mask site (under (remote_name d) ipv4)

-- all of them; `m` is the entry's `matches`, if there is one
unfoldable pub mask_words : Direction → List ℕ → List ℕ → Option Json → List ℕ
mask_words d site url m =
    let mud = under (ascii "ietf-mud:mud") m in
    thing_masks site mud ++ (class_mask site mud ++ (null_masks site url mud ++ host_mask d site (under (ascii "ipv4") m)))
