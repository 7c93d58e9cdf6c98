-- Laws: what is read of a sheet settles what is answered to it.
pub mod SheetLaws
