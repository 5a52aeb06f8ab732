pub mod Tabs
