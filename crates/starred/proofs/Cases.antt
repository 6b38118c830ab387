-- THE STARRED CASES HOLD: one computed test through the definitions. Assumes nothing.
use mathlib.Core.Path.{◌≡◌, refl, sym}
use mathlib.Core.Bool.{true}
use Rattle.naming.proofs.Lines.{lines_few}
use Rattle.reading.proofs.Lets.{lets_rules}
use Rattle.builder.specs.Encoding as encoding
use Rattle.entries.specs.Known as entries-Known
use Rattle.entries.specs.Sound as entries-Sound
use Rattle.flows.specs.Cells as flows-Cells
use Rattle.flows.specs.Rules as flows-Rules
use Rattle.flows.specs.Table as flows-Table
use Rattle.gateway.specs.Answer as answer
use Rattle.gateway.specs.Order as order
use Rattle.header.specs.Asked as header-Asked
use Rattle.header.specs.Header as header-Header
use Rattle.jsontext.specs.Reading as json-Reading
use Rattle.lists.specs.Lists as lists-Lists
use Rattle.naming.specs.Masks as naming-Masks
use Rattle.naming.specs.Named as naming-Named
use Rattle.reading.specs.Rules as reading-Rules
use Rattle.rules.specs.Defaults as rules-Defaults
use Rattle.rules.specs.Meaning as rules-Meaning
use Rattle.rules.specs.Names as rules-Names
use Rattle.rules.specs.Parts as rules-Parts
use Rattle.rules.specs.Ports as rules-Ports
use Rattle.rules.specs.Read as rules-Read
use Rattle.rules.specs.Rows as rules-Rows
use Rattle.site.specs.Line as site-Line
use Rattle.site.specs.Site as site-Site
use Rattle.site.specs.Url as site-Url
use Rattle.starred.proofs.Computing as computing
use Rattle.starred.specs.Cases as cases
use Rattle.stored.specs.Text as stored-Text
use Rattle.text.specs.Bytes as text-Bytes
use Rattle.text.specs.Networks as text-Networks
use Rattle.text.specs.Numbers as text-Numbers
use Rattle.text.specs.Walk as text-Walk
use Rattle.text.specs.Words as text-Words
use Rattle.text.specs.Written as text-Written
use Rattle.values.specs.Clean as values-Clean
use Rattle.values.specs.Decode as values-Decode
use Rattle.values.specs.Rules as values-Rules
use Rattle.values.specs.Tree as values-Tree

computed : computing.hold reading-Rules.rules_for cases.cases ≡ true
unfolding answer.sized encoding.box_of encoding.limits_of encoding.name_limits encoding.named_by encoding.range_if entries-Known.entry_known entries-Known.matches_known entries-Known.ports_known entries-Sound.actions_ok entries-Sound.device_name entries-Sound.device_network entries-Sound.entry_ok entries-Sound.in_order entries-Sound.ipv4_ok entries-Sound.is_operator_form entries-Sound.is_range_form entries-Sound.matches_ok entries-Sound.mud_ok entries-Sound.nulls_ok entries-Sound.ordered entries-Sound.port_ok entries-Sound.ports_ok entries-Sound.protocol_is entries-Sound.remote_name entries-Sound.remote_network entries-Sound.sides_named entries-Sound.sides_ok entries-Sound.strings_ok entries-Sound.tcp_beside entries-Sound.tcp_ok entries-Sound.transport_ok entries-Sound.udp_beside flows-Cells.cell_table flows-Cells.cuts_of flows-Cells.ends_of flows-Cells.insert_end flows-Cells.insert_limits flows-Cells.insert_ranges flows-Cells.insert_start flows-Cells.keep_if flows-Cells.last_of flows-Cells.live flows-Cells.rest flows-Cells.runs_at flows-Rules.accepts flows-Rules.first_match flows-Rules.flow_rules flows-Rules.in_all flows-Rules.in_box flows-Rules.in_some flows-Table.add_run flows-Table.eq_line flows-Table.eq_range flows-Table.eq_table flows-Table.in_range flows-Table.join_run flows-Table.lines_of flows-Table.put_before cases.cases header-Asked.is_among header-Asked.is_network header-Asked.net_in header-Header.header_ok header-Header.outermost_ok json-Reading.array_at json-Reading.char_at json-Reading.element_at json-Reading.escape_at json-Reading.exponent_at json-Reading.fraction_at json-Reading.int_at json-Reading.is_e json-Reading.is_escape json-Reading.is_hex json-Reading.is_plain json-Reading.is_space json-Reading.key_at json-Reading.member_at json-Reading.minus_at json-Reading.next_at json-Reading.number_at json-Reading.object_at json-Reading.one_at json-Reading.quote_or_char_at json-Reading.run json-Reading.sign_at json-Reading.skip_at json-Reading.some_at json-Reading.span_at json-Reading.start_of json-Reading.stop json-Reading.string_at json-Reading.tails_at json-Reading.text_of json-Reading.times_at json-Reading.token_at json-Reading.value_at json-Reading.wide_at json-Reading.word_at lists-Lists.all_different lists-Lists.both_ok lists-Lists.direction_ok lists-Lists.entries_named lists-Lists.entries_of lists-Lists.has_string_name lists-Lists.has_type lists-Lists.inner_ok lists-Lists.is_named lists-Lists.list_entries lists-Lists.list_named lists-Lists.list_ok lists-Lists.lists_of lists-Lists.lists_ok lists-Lists.named_array lists-Lists.named_ok lists-Lists.names_of lists-Lists.nested lists-Lists.nested_ok lists-Lists.policies_ok lists-Lists.policy_lists lists-Lists.policy_name lists-Lists.policy_ok lists-Lists.policy_shape naming-Masks.mask_of naming-Masks.named_mask naming-Masks.network_words naming-Masks.lines_to naming-Named.names order.conditions order.tree_rows computing.fits computing.hold computing.holds computing.rows_off computing.table_by reading-Rules.rows_for reading-Rules.rules_for rules-Defaults.dns_words rules-Defaults.ntp_words rules-Meaning.entry_accepts rules-Names.class_mask rules-Names.host_mask rules-Names.mask_words rules-Names.null_masks rules-Names.thing_masks rules-Parts.networks rules-Parts.openers rules-Parts.protocols rules-Parts.transport rules-Ports.by_operator rules-Ports.other_than rules-Ports.ports_of rules-Read.all_known rules-Read.all_sound rules-Read.entries_read rules-Read.every rules-Rows.port_sides rules-Rows.row_of rules-Rows.rule_words site-Line.kind_at site-Line.line_at site-Line.name_ok site-Line.rest_at site-Line.suits site-Line.word_at site-Site.lines site-Site.stop site-Url.authority_of site-Url.ends_authority site-Url.is_mud_url site-Url.until_end stored-Text.address_text stored-Text.line_text stored-Text.nth stored-Text.range_text stored-Text.table_text text-Bytes.between text-Bytes.is_at text-Networks.high_of text-Networks.low_of text-Networks.net_of text-Networks.network_at text-Networks.size_of text-Numbers.closed_by text-Numbers.digits_from text-Numbers.number_at text-Numbers.quad_at text-Walk.walk text-Words.has_at text-Written.decimal text-Written.decimal_by text-Written.quad values-Clean.absent values-Clean.all_bytes values-Clean.clean values-Clean.clean_elements values-Clean.clean_members values-Decode.bytes_at values-Decode.bytes_from values-Decode.digit_of values-Decode.escaped_at values-Decode.letter_of values-Decode.low_at values-Decode.pair_of values-Decode.partner_at values-Decode.piece_at values-Decode.unicode_at values-Decode.unit_at values-Decode.utf8 values-Decode.utf8_long values-Rules.all values-Rules.all_names values-Rules.first_with values-Tree.capped values-Tree.decimal values-Tree.elements_at values-Tree.elements_of values-Tree.find values-Tree.lookup values-Tree.members_at values-Tree.members_of values-Tree.name_at values-Tree.number_of values-Tree.place_at values-Tree.places values-Tree.places_at values-Tree.tree_at values-Tree.tree_of
computed = refl

pub cases_hold : cases.Hold cases.cases
cases_hold = computing.hold_true reading-Rules.rules_for (λ file site s k e p. sym (lets_rules file site p (lines_few site s) e)) cases.cases computed
