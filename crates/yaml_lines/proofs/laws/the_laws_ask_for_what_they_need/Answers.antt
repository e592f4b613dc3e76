-- Each clause is computed.
use Rattle.std.proofs.Common.{refl}
use Rattle.yaml_lines.specs.BlockTexts.{header_of, margin_of, is_ragged, joined}
use Rattle.yaml_lines.specs.Entries.{entry_of_line}
use Rattle.yaml_lines.specs.Lines.{last_value, with_text, with_value, with_flow, left_of, left_at_line, all_content_lines, document, content_lines_from}
use Rattle.yaml_lines.specs.Plain.{begins_plain, uncommented, trim_end, sides_of, plain_of}
use Rattle.yaml_lines.specs.Quoted.{single_step, double_step, escaped, named, quoted_within, quoted_of}
use Rattle.yaml_lines.specs.Scalars.{scalar_meaning}
use Rattle.yaml_lines.proofs.laws.the_laws_ask_for_what_they_need.Goals as goal

pub returns-clause-single : goal.returns-clause-single
unfolding scalar_meaning plain_of begins_plain sides_of uncommented trim_end quoted_of quoted_within single_step lib.Utf8.encode
returns-clause-single c = (record { plain = refl; without_comment = refl; without_blanks = refl }, refl)

pub returns-clause-double : goal.returns-clause-double
unfolding scalar_meaning plain_of begins_plain sides_of uncommented trim_end quoted_of quoted_within double_step lib.Utf8.encode
returns-clause-double c = (record { plain = refl; without_comment = refl; without_blanks = refl }, refl)

pub returns-clause-backslash : goal.returns-clause-backslash
unfolding scalar_meaning plain_of begins_plain sides_of uncommented trim_end quoted_of quoted_within double_step escaped named lib.Utf8.encode
returns-clause-backslash c = (record { plain = refl; without_comment = refl; without_blanks = refl }, refl)

pub returns-clause-feed : goal.returns-clause-feed
unfolding scalar_meaning quoted_of quoted_within single_step
returns-clause-feed c = refl

pub returns-clause-key : goal.returns-clause-key
unfolding entry_of_line quoted_of quoted_within single_step
returns-clause-key c = refl

pub returns-clause-colon : goal.returns-clause-colon
unfolding entry_of_line plain_of begins_plain sides_of uncommented trim_end lib.Utf8.encode
returns-clause-colon c = (record { plain = refl; without_comment = refl; without_blanks = refl }, refl)

pub returns-clause-behind : goal.returns-clause-behind
unfolding scalar_meaning quoted_of quoted_within single_step lib.Utf8.encode
returns-clause-behind c = (refl, refl)

pub returns-clause-hash : goal.returns-clause-hash
unfolding scalar_meaning plain_of begins_plain sides_of uncommented trim_end lib.Utf8.encode
returns-clause-hash c = refl

pub returns-clause-block_line : goal.returns-clause-block_line
unfolding content_lines_from all_content_lines left_at_line left_of with_flow with_value with_text last_value entry_of_line begins_plain sides_of trim_end header_of margin_of is_ragged joined document
    lib.Utf8.encode
returns-clause-block_line c = refl

pub returns-clause-without_it : goal.returns-clause-without_it
unfolding content_lines_from all_content_lines left_at_line left_of with_flow with_value with_text last_value entry_of_line begins_plain sides_of trim_end header_of margin_of is_ragged joined document
returns-clause-without_it c = refl
