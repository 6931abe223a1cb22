pub mod SameSlot
