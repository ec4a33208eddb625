pub mod ClientOrder
pub mod private
