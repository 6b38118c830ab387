-- What a flow is (document 01, 'Flows').
use Rattle.std.specs.Prelude.{ℕ, Bool, ◌&&◌, ◌||◌, List, [], ◌∷◌, eqb, get_or}
use Rattle.flows.specs.Table.{Set, within}

-- direction (0 from the device, 1 to it), protocol, opener, remote address, remote port, device port
abbrev pub widths : List ℕ
widths = 2 ∷ (256 ∷ (2 ∷ (4294967296 ∷ (65536 ∷ (65536 ∷ [])))))

-- "opener: 0 the device, 1 the remote; always 0 unless the protocol is 6", "Both ports are 0 unless the protocol is 6 or 17."
unfoldable pub flow_numbers : ℕ → ℕ → ℕ → ℕ → Bool
flow_numbers protocol opener remote device =
    (eqb opener 0 || eqb protocol 6) && ((eqb remote 0 && eqb device 0) || (eqb protocol 6 || eqb protocol 17))

-- "A flow is six numbers, in this order"
unfoldable pub is_flow : Set
is_flow p = within widths p && flow_numbers (get_or p 1 0) (get_or p 2 0) (get_or p 4 0) (get_or p 5 0)
