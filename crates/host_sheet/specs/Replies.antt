-- The outcome of a sheet as two numbers (01, refusals; sheet and history).
-- 0 is no refusal's number.
use Rattle.std.specs.Prelude.{get_or}
use Rattle.record.specs.Report.{Report}
use Rattle.host_sheet.specs.declared.SheetReply.{SheetReply}

abbrev pub sheet_reply : Report → SheetReply
sheet_reply o = record { number = o.number; value = get_or o.values 0 0 }
