-- `fits` meets its contract: any text fits, or it is measured.
use Rattle.sheet.specs.Text.{records_in}
use Rattle.sheet_writer.proofs.WriteLaws.{fits_any, fits_measured}
use Rattle.sheet_writer.proofs.write.fits.Goals as goal

pub returns-then-room-ge-MAX_WRITTEN : goal.returns-then-room-ge-MAX_WRITTEN
returns-then-room-ge-MAX_WRITTEN c =
    fits_any (records_in c.args.records) c.requires c.args.room c.if-room-ge-MAX_WRITTEN.true

pub returns : goal.returns
returns c = fits_measured (records_in c.args.records) c.requires c.args.room c.put_sheet.ensures
