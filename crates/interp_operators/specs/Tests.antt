pub mod SideViews
pub mod Droppings
