pub mod Rooms
pub mod TreeRooms
pub mod SizeLaws
pub mod SizeLengths
pub mod ReadAgain
