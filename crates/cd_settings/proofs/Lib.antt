pub mod BoundedForms
pub mod BoundedSettings
pub mod ChainFaults
pub mod Folds
pub mod FreeFaults
pub mod JoinedBlocks
pub mod LoadedPlugins
pub mod WrittenPorts
