pub mod Floors
pub mod StoreFloors
