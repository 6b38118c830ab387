-- The paper's numbers for the types of the code (document 01, 'Flows', and 'The MUD rules' for the direction rule).
use Rattle.std.specs.Prelude.{ℕ, [], ◌∷◌}
use Rattle.flows.specs.Table.{Point}
use Rattle.flows.specs.declared.Direction.{Direction}
use Rattle.flows.specs.declared.Direction.TheVariants.{FromDevice, ToDevice}
use Rattle.flows.specs.declared.Opener.{Opener}
use Rattle.flows.specs.declared.Opener.TheVariants.{Device, Remote}
use Rattle.flows.specs.declared.Numbers as numbers
use Rattle.flows.specs.declared.Sides.{Sides}

-- "direction: 0 from the device, 1 to it"
abbrev pub direction_number : Direction → ℕ
direction_number FromDevice = 0
direction_number ToDevice = 1

-- "opener: 0 the device, 1 the remote"
abbrev pub opener_number : Opener → ℕ
opener_number Device = 0
opener_number Remote = 1

-- the six numbers, "in this order"
abbrev pub point_of : numbers.Numbers → Point
point_of n =
    n.direction ∷ (n.protocol.0 ∷ (n.opener ∷ (n.address.0 ∷ (n.remote.0 ∷ (n.device.0 ∷ [])))))

-- "In a from-device list the destination is the remote and the source the device; in a to-device list the reverse."
abbrev pub by_side : {A : Type 0} → Direction → A → A → A × A
by_side FromDevice source destination = (destination, source)
by_side ToDevice source destination = (source, destination)

-- of ports: by_side's, each with its own type
abbrev pub sides_of : Direction → ℕ → ℕ → Sides
sides_of FromDevice source destination = record { remote = record { 0 = destination }; device = record { 0 = source } }
sides_of ToDevice source destination = record { remote = record { 0 = source }; device = record { 0 = destination } }
