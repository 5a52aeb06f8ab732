-- The three digits of an entry are the row's length and columns: `lead_row`, the computed test over the table, which is the code's.
use Rattle.chars.specs.Leads.{lead_table}
use Rattle.chars.proofs.Leads.{lead_row}
use Rattle.chars.proofs.lead_in.Goals as goal

pub returns : goal.returns
unfolding lead_table
returns c = lead_row c.args.b c.ranges.b.fits
