-- Laws: the sections; how long a listing can be; a method, ten records and a sheet listed in
-- scratch; what a response is; what visits give; the examples. The main theorems.
pub mod SectionsLaws
pub mod ListingLaws
pub mod WithinMethodLaws
pub mod WithinRecordsLaws
pub mod CallsLaws
pub mod RoomLaws
pub mod ProgramLaws
pub mod VisitLaws
pub mod ExampleLaws
pub mod Theorems
