pub mod Expected
pub mod Order
pub mod BootSeen
pub mod KeySeen
pub mod ShadowSeen
